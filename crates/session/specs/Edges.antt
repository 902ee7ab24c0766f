-- The edges of a day: reference 100,000, leveraged sheet, ranking by time, reply time 30 seconds.
use Rattle.std.specs.Prelude.{◌≡◌, ℕ, true, false, List, [], ◌∷◌}
use Rattle.figures.specs.Edges.{FigureEdges}
use Rattle.figures.specs.Sheets.{leveraged}
use Rattle.figures.specs.declared.offer.Offer.{Offer}
use Rattle.book.specs.Causes.{cause_number}
use Rattle.book.specs.Ranks.{by_time}
use Rattle.book.specs.declared.side.Side.{Side}
use Rattle.book.specs.declared.side.Side.TheVariants.{Buy, Sell}
use Rattle.book.specs.declared.slip.Cause.TheVariants.{OutsideQuote}
use Rattle.book.specs.declared.slip.Slip.{Slip}
use Rattle.book.specs.declared.slip.Slip.TheVariants.{Trade, Out}
use Rattle.session.specs.Calls.{Outcome, entered, quoted, ticked, validated}
use Rattle.session.specs.Days.{Day, State, fresh}
use Rattle.session.specs.Phases.{PhaseKind, kind_of, opener_of}
use Rattle.session.specs.declared.entry.Entry.{Entry}
use Rattle.session.specs.declared.phase.PhaseKind.TheVariants as kind

abbrev pub day : Day
day = record { means = leveraged; rank = by_time; reference = 100000; reply = 30 }

-- bid 99,000 and ask 101,000 with 500 pieces each
abbrev pub offer : Offer
offer = record { bid = 99000; bid_pieces = 500; ask = 101000; ask_pieces = 500 }

abbrev pub order : ℕ → Side → ℕ → Entry
order sender side price = record { sender = sender; side = side; price = price; pieces = 100; brief = false }

-- a flagged quote, then a buy, then a sell
abbrev pub flagged : State
flagged = (quoted day (fresh 100000) 129 offer true).state

abbrev pub buying : ℕ → Outcome
buying price = entered day flagged 129 (order 7 Buy price)

abbrev pub selling : ℕ → ℕ → Outcome
selling buy sell = entered day (buying buy).state 129 (order 8 Sell sell)

-- nobody answers, and the second comes at which the RFE is due; one second before it nothing happens
abbrev pub missed : ℕ → ℕ → Outcome
missed buy sell = ticked day (selling buy sell).state 129 30

abbrev pub early : ℕ → ℕ → Outcome
early buy sell = ticked day (selling buy sell).state 129 29

-- the Specialist validates with the same bid and ask
abbrev pub confirmed : ℕ → ℕ → Outcome
confirmed buy sell = validated day (selling buy sell).state 129 2 offer true

-- an RFE is open, opened by a ticket, and the call wrote nothing
pub record Waits (o : Outcome) (ticket : ℕ) : Type 0 where
  pub phase : kind_of o.state.phase ≡ kind.Asked
  pub opener : opener_of o.state.phase ≡ ticket
  pub slips : o.slips ≡ []

-- a call left the book in a phase, with these slips
pub record Leaves (o : Outcome) (kind : PhaseKind) (told : List Slip) : Type 0 where
  pub phase : kind_of o.state.phase ≡ kind
  pub slips : o.slips ≡ told

pub record Edges : Type 0 where
  pub figures : FigureEdges
  -- a buy at 105,000 opens the RFE, a sell at 95,000 waits
  pub opens : Waits (buying 105000) 2
  pub waits : Waits (selling 105000 95000) 2
  -- at the due second, and not before, the sell goes out, cause 2
  pub not_yet : Waits (early 105000 95000) 2
  pub goes_out : Leaves (missed 105000 95000) kind.Dark (Out OutsideQuote 3 100 ∷ [])
  pub cause_two : cause_number OutsideQuote ≡ 2
  -- validated unchanged, the buy pays 101,000 and the sell gets 99,000
  pub served : Leaves (confirmed 105000 95000) kind.Lit (Trade 101000 100 2 0 ∷ Trade 99000 100 0 3 ∷ [])
  -- a buy at 101,000 and a sell at 100,000 instead, missed: they trade at 101,000
  pub also_opens : Waits (buying 101000) 2
  pub also_waits : Waits (selling 101000 100000) 2
  pub meet : Leaves (missed 101000 100000) kind.Dark (Trade 101000 100 2 3 ∷ [])
