-- What worthless engines would give: the laws are false of each of these days.
use Rattle.std.specs.Prelude.{ℕ, true, false, List, [], ◌∷◌, length, replicate}
use Rattle.figures.specs.declared.offer.Offer.{Offer}
use Rattle.book.specs.Cross.{written}
use Rattle.book.specs.declared.quote.Quote.{Quote}
use Rattle.book.specs.declared.side.Side.{Side}
use Rattle.book.specs.declared.side.Side.TheVariants.{Buy, Sell}
use Rattle.book.specs.declared.slip.Cause.TheVariants.{Cancelled, OutsideQuote}
use Rattle.book.specs.declared.slip.Slip.{Slip}
use Rattle.book.specs.declared.slip.Slip.TheVariants.{Trade, Out}
use Rattle.session.specs.Acts.{at_clock, placing}
use Rattle.session.specs.Calls.{accepting, answer_of, order_of, quote_from, tallied, with_count, with_totals}
use Rattle.session.specs.Days.{State, fresh}
use Rattle.session.specs.Edges.{day, offer}
use Rattle.session.specs.Phases.{Phase, Dark, Lit, Halted}
use Rattle.session.specs.Runs.{with_phase, with_rows}
use Rattle.session.specs.Stories.{Call, Enter, Quoting, Validate, Clock, Collect, Renew, Answered, Handed, Event, event}
use Rattle.session.specs.StoryLaws.{Laws}
use Rattle.session.specs.StoryPhases.{remaining}
use Rattle.session.specs.declared.entry.Entry.{Entry}

-- what happened, the latest first, and the book after it
pub record Tale : Type 0 where
  pub events : List Event
  pub book : State

abbrev pub paper : List Slip
paper = replicate 129 (Out Cancelled 0 0)

-- a call as it has to go
abbrev pub next : Tale → Call → ℕ → Tale
next t c summons = let e = event day t.book c paper summons in record { events = e ∷ t.events; book = e.after }

-- a call as a worthless engine takes it: it answers with a number and a count, writes slips and leaves a book
abbrev pub claims : Tale → Call → ℕ → ℕ → ℕ → List Slip → State → Tale
claims t c summons number count slips s =
    record {
      events = record {
        call = c;
        reply = Answered (answer_of s count number);
        before = t.book;
        after = s;
        old = paper;
        new = written slips paper;
        held = summons;
        kept = 0;
      } ∷ t.events;
      book = s;
    }

-- the book that slips leave, in a phase
abbrev pub after : State → List Slip → Phase → State
after s slips phase = with_totals (with_phase (with_rows s (remaining slips s.table.rows)) phase) (tallied s.totals slips)

-- a worthless engine at the due second, and one that is validated
abbrev pub missing : Tale → List Slip → Tale
missing t slips = claims t (Clock 30) 0 0 (length slips) slips (record {
  clock = 30;
  dynamic = t.book.dynamic;
  count = t.book.count;
  collected = t.book.collected;
  totals = tallied t.book.totals slips;
  phase = Dark;
  table = record { rows = remaining slips t.book.table.rows };
})

abbrev pub quote : Quote
quote = quote_from offer true 1

abbrev pub confirming : Tale → List Slip → Quote → Tale
confirming t slips left = claims t (Validate offer true) 2 1 (length slips) slips (after t.book slips (Lit left))

abbrev pub entry : Side → ℕ → ℕ → Entry
entry side price pieces = record { sender = 7; side = side; price = price; pieces = pieces; brief = false }

-- ---- days that begin well

abbrev pub opened : Tale
opened = record { events = []; book = fresh 100000 }

abbrev pub lit : Tale
lit = next opened (Quoting offer true) 0

-- a buy opens the RFE, a sell waits
abbrev pub waiting : ℕ → ℕ → Tale
waiting buy sell = next (next lit (Enter (entry Buy buy 100)) 0) (Enter (entry Sell sell 100)) 0

-- the buy alone
abbrev pub asking : Tale
asking = next lit (Enter (entry Buy 101000 100)) 0

-- a second sell waits, or a second pair
abbrev pub two_sells : Tale
two_sells = next (waiting 101000 100000) (Enter (entry Sell 99500 100)) 0

abbrev pub two_pairs : Tale
two_pairs = next (next (waiting 101000 100000) (Enter (entry Buy 100500 50)) 0) (Enter (entry Sell 100000 50)) 0

-- a quote within Limit 1 and beyond Limit 2
abbrev pub far_offer : Offer
far_offer = record { bid = 160000; bid_pieces = 500; ask = 161000; ask_pieces = 500 }

abbrev pub far : Tale
far = next opened (Quoting far_offer false) 0

-- the dynamic price is 190,000, and a quote beyond Limit 1 is accepted
abbrev pub high_offer : Offer
high_offer = record { bid = 189000; bid_pieces = 500; ask = 191000; ask_pieces = 500 }

abbrev pub too_high : Offer
too_high = record { bid = 210000; bid_pieces = 500; ask = 211000; ask_pieces = 500 }

abbrev pub high : Tale
high = next (next opened (Quoting high_offer false) 0) Renew 0

abbrev pub higher : Tale
higher = claims high (Quoting too_high false) 0 2 0 [] (with_phase (with_count high.book 2) (Lit (quote_from too_high false 2)))

-- then a quote within Limit 2 of the reference, and not of the dynamic price
abbrev pub low_offer : Offer
low_offer = record { bid = 89000; bid_pieces = 500; ask = 90000; ask_pieces = 500 }

abbrev pub low : Tale
low = next high (Quoting low_offer false) 0

-- ---- and end badly

abbrev pub Refused : Tale → Type 0
Refused t = Laws day t.events t.book → ⊥

-- an enter into a lit book, answered with a ticket, that leaves nothing of its order
abbrev pub served : Tale → Entry → ℕ → List Slip → Quote → Tale
served t e ticket slips left =
    let s = accepting t.book ticket e.pieces in
    claims t (Enter e) 0 ticket (length slips) slips (with_totals (with_phase s (Lit left)) (tallied s.totals slips))

-- the quote with these pieces left to sell, or to buy
abbrev pub sold : Quote → ℕ → Quote
sold q pieces = record {
  number = q.number;
  bid = q.bid;
  bid_pieces = q.bid_pieces;
  ask = q.ask;
  ask_pieces = pieces;
  flagged = q.flagged;
}

abbrev pub bought : Quote → ℕ → Quote
bought q pieces = record {
  number = q.number;
  bid = q.bid;
  bid_pieces = pieces;
  ask = q.ask;
  ask_pieces = q.ask_pieces;
  flagged = q.flagged;
}

-- execute-and-cancel
abbrev pub brief : Entry
brief = record { sender = 7; side = Sell; price = 100500; pieces = 100; brief = true }

-- a collect that hands over a number
abbrev pub hands : Tale → ℕ → Tale
hands t summons =
    record {
      events = record {
        call = Collect;
        reply = Handed summons;
        before = t.book;
        after = t.book;
        old = paper;
        new = paper;
        held = 0;
        kept = summons;
      } ∷ t.events;
      book = t.book;
    }

pub record StoryTeeth : Type 0 where
  -- the first pair is worked and the rest dropped
  pub dropped : Refused (missing two_pairs (Trade 101000 100 2 3 ∷ []))
  -- a sell is accepted and not stored
  pub stored : Refused (served lit (entry Sell 100000 100) 2 [] quote)
  -- a trade beyond Limit 2, as where the sheet is never consulted
  pub beyond : Refused (served far (entry Buy 161000 100) 2 (Trade 161000 100 2 0 ∷ []) (sold (quote_from far_offer false 1) 400))
  -- a trade beyond Limit 1
  pub too_far : Refused (served higher (entry Buy 211000 100) 3 (Trade 211000 100 3 0 ∷ []) (sold (quote_from too_high false 2) 400))
  -- a sell is served while a buy reaches the quote
  pub sell_first : Refused (confirming (waiting 105000 95000) (Trade 99000 100 0 3 ∷ Trade 101000 100 2 0 ∷ [])
      (sold (bought quote 400) 400))
  -- a waiting sell is served as a partner
  pub waits : Refused (confirming (waiting 105000 100000) (Trade 100000 100 2 3 ∷ []) quote)
  -- the better of two sells is passed over
  pub passed_over : Refused (missing two_sells (Trade 101000 100 2 3 ∷ []))
  -- a trade outside the governing quote
  pub dear : Refused (missing (waiting 105000 95000) (Trade 105000 100 2 3 ∷ []))
  -- a piece is lost: both orders are gone, and the slip has 99 of 100
  pub lost : Refused (claims (waiting 101000 100000) (Clock 30) 0 0 1 (Trade 101000 99 2 3 ∷ [])
      (missing (waiting 101000 100000) (Trade 101000 100 2 3 ∷ [])).book)
  -- an order goes out in place of a trade
  pub taken_out : Refused (missing (waiting 101000 100000) (Out OutsideQuote 3 100 ∷ []))
  -- the lower ticket of two goes out
  pub elder : Refused (missing (waiting 105000 95000) (Out OutsideQuote 2 100 ∷ []))
  -- Limit 2 is taken around the static price
  pub static : Refused (served low (entry Buy 90000 100) 3 (Trade 90000 100 3 0 ∷ []) (sold (quote_from low_offer false 2) 400))
  -- an execute-and-cancel order is left standing
  pub tail : Refused (claims lit (Enter brief) 0 2 0 [] (placing (accepting lit.book 2 100) (order_of brief 2)))
  -- a validated quote gets a new number
  pub renumbered : Refused (claims (waiting 105000 95000) (Validate offer true) 2 4 2 (Trade 101000 100 2 0 ∷ Trade 99000 100 0 3 ∷ [])
      (after (waiting 105000 95000).book (Trade 101000 100 2 0 ∷ Trade 99000 100 0 3 ∷ [])
      (Lit (sold (bought (quote_from offer true 4) 400) 400))))
  -- an RFE stands at its due second
  pub late : Refused (claims (waiting 105000 95000) (Clock 30) 0 0 0 [] (at_clock (waiting 105000 95000).book 30))
  -- an RFE ends a second early
  pub early : Refused (claims (waiting 101000 100000) (Clock 29) 0 0 1 (Trade 101000 100 2 3 ∷ [])
      (at_clock (missing (waiting 101000 100000) (Trade 101000 100 2 3 ∷ [])).book 29))
  -- an order that has to wait is served at once
  pub impatient : Refused (claims asking (Enter (entry Sell 100000 100)) 0 3 1 (Trade 101000 100 2 3 ∷ [])
      (after (accepting asking.book 3 100) (Trade 101000 100 2 3 ∷ []) Dark))
  -- a blank is handed over in an RFE whose summons nobody has
  pub blank : Refused (hands (waiting 105000 95000) 0)
  -- the count is invented: one slip is counted and none was written
  pub invented : Refused (claims lit (Clock 10) 0 0 1 [] (at_clock lit.book 10))
  -- the book is halted for nothing
  pub halted : Refused (claims lit (Clock 10) 0 0 0 [] (with_phase (at_clock lit.book 10) (Halted 130)))
