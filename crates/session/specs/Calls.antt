-- What each call answers, with book, slips and summons afterwards.
use Rattle.std.specs.Prelude.{ℕ, ◌+◌, ◌/◌, Bool, true, false, cond, List, [], length, Some, None, Ok, Err, sum_by, Option, ◌==◌, nat_lt}
use Rattle.figures.specs.declared.offer.Offer.{Offer}
use Rattle.book.specs.declared.order.Order.{Order}
use Rattle.book.specs.declared.quote.Quote.{Quote}
use Rattle.book.specs.declared.slip.Slip.{Slip}
use Rattle.book.specs.declared.slip.Slip.TheVariants.{Trade, Out}
use Rattle.session.specs.Acts.{Act, Enter, Cancel, Put, Withdraw, Clock, acted}
use Rattle.session.specs.Checks.{Passed, cancel_check, clock_check, enter_check, fits, quote_test, room_check, validate_check, withdraw_check}
use Rattle.session.specs.Days.{Day, State, Totals, totals_of}
use Rattle.session.specs.Phases.{kind_of, opener_of, quote_of}
use Rattle.session.specs.declared.answer.Answer.{Answer}
use Rattle.session.specs.declared.entry.Entry.{Entry}
use Rattle.session.specs.declared.fault.SessionFault.{SessionFault}

pub record Outcome : Type 0 where
  pub result : Passed Answer
  pub state : State
  pub slips : List Slip

abbrev pub refused : State → SessionFault → Outcome
refused s fault = record { result = Err fault; state = s; slips = [] }

-- a refusal leaves all as it was
abbrev pub guarded : {A : Type 0} → State → Passed A → (A → Outcome) → Outcome
guarded s (Err fault) go = refused s fault
guarded s (Ok a) go = go a

-- ---- totals, summed over tickets: the quote has none

abbrev pub done_on : Slip → ℕ
done_on (Trade price pieces buyer seller) = cond (buyer == 0) 0 pieces + cond (seller == 0) 0 pieces
done_on (Out cause ticket pieces) = 0

abbrev pub out_on : Slip → ℕ
out_on (Trade price pieces buyer seller) = 0
out_on (Out cause ticket pieces) = pieces

abbrev pub tallied : Totals → List Slip → Totals
tallied t slips = totals_of t.accepted (t.done + sum_by done_on slips) (t.out + sum_by out_on slips)

abbrev pub with_totals : State → Totals → State
with_totals s t = record { clock = s.clock; dynamic = s.dynamic; count = s.count; collected = s.collected; totals = t; phase = s.phase; table = s.table }

abbrev pub with_count : State → ℕ → State
with_count s n = record { clock = s.clock; dynamic = s.dynamic; count = n; collected = s.collected; totals = s.totals; phase = s.phase; table = s.table }

-- ---- answers

abbrev pub answer_of : State → ℕ → ℕ → Answer
answer_of s slips number = record { phase = kind_of s.phase; slips = slips; number = number; dynamic = s.dynamic; opener = opener_of s.phase }

-- the call is carried out, and answered with a number
unfoldable pub done : Day → State → Act → ℕ → Outcome
done d s act number =
    let a = acted d s act in
    let after = with_totals a.state (tallied a.state.totals a.slips) in
    record { result = Ok (answer_of after (length a.slips) number); state = after; slips = a.slips }

-- ---- the calls

abbrev pub order_of : Entry → ℕ → Order
order_of e ticket = record { ticket = ticket; sender = e.sender; side = e.side; price = e.price; pieces = e.pieces; brief = e.brief }

abbrev pub accepting : State → ℕ → ℕ → State
accepting s ticket pieces = with_count (with_totals s (totals_of (s.totals.accepted + pieces) s.totals.done s.totals.out)) ticket

abbrev pub entered : Day → State → ℕ → Entry → Outcome
entered d s places e =
    guarded s (enter_check d s places e) (λ ticket. done d (accepting s ticket e.pieces) (Enter (order_of e ticket)) ticket)

abbrev pub cancelled : Day → State → ℕ → ℕ → ℕ → Outcome
cancelled d s places sender ticket = guarded s (cancel_check s places sender ticket) (λ found. done d s (Cancel found) 0)

abbrev pub quote_from : Offer → Bool → ℕ → Quote
quote_from o flagged number = record { number = number; bid = o.bid; bid_pieces = o.bid_pieces; ask = o.ask; ask_pieces = o.ask_pieces; flagged = flagged }

abbrev pub quoted : Day → State → ℕ → Offer → Bool → Outcome
quoted d s places o flagged =
    guarded s (quote_test d s places o) (λ number. done d (with_count s number) (Put (quote_from o flagged number)) number)

abbrev pub withdrawn : Day → State → ℕ → Outcome
withdrawn d s places = guarded s (withdraw_check s places) (λ _. done d s Withdraw 0)

-- the number of the quote that stands: a validated quote keeps it
abbrev pub number_of : Option Quote → ℕ
number_of None = 0
number_of (Some q) = q.number

abbrev pub validated : Day → State → ℕ → ℕ → Offer → Bool → Outcome
validated d s places summons o flagged =
    let number = number_of (quote_of s.phase) in
    guarded s (validate_check d s places summons o) (λ _. done d s (Put (quote_from o flagged number)) number)

-- nothing happens where the summons is not of the open RFE
abbrev pub declining : Day → State → Bool → Outcome
declining d s true = done d s Withdraw 0
declining d s false = record { result = Ok (answer_of s 0 0); state = s; slips = [] }

abbrev pub declined : Day → State → ℕ → ℕ → Outcome
declined d s places summons = guarded s (room_check places) (λ _. declining d s (fits s summons))

abbrev pub ticked : Day → State → ℕ → ℕ → Outcome
ticked d s places seconds = guarded s (clock_check s places seconds) (λ _. done d s (Clock seconds) 0)

-- half of bid plus ask, rounded down, where a quote stands
abbrev pub middle : State → Option Quote → ℕ
middle s None = s.dynamic
middle s (Some q) = (q.bid + q.ask) / 2

abbrev pub with_dynamic : State → ℕ → State
with_dynamic s price = record { clock = s.clock; dynamic = price; count = s.count; collected = s.collected; totals = s.totals; phase = s.phase; table = s.table }

abbrev pub renewed : State → Outcome
renewed s =
    let after = with_dynamic s (middle s (quote_of s.phase)) in
    record { result = Ok (answer_of after 0 0); state = after; slips = [] }

-- the summons of the open RFE the first time, else a blank
abbrev pub summons_of : State → ℕ
summons_of s = cond (nat_lt s.collected (opener_of s.phase)) (opener_of s.phase) 0

abbrev pub collecting : State → State
collecting s =
    record { clock = s.clock; dynamic = s.dynamic; count = s.count; collected = cond (nat_lt s.collected (opener_of s.phase)) (opener_of s.phase) s.collected; totals = s.totals; phase = s.phase; table = s.table }

-- an accepted validate and an accepted decline spend a summons
abbrev pub spent_by : Passed Answer → ℕ → ℕ
spent_by (Ok a) summons = 0
spent_by (Err fault) summons = summons
