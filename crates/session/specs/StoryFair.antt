-- The slips of a call, judged by the quote that governs it.
use Rattle.std.specs.Prelude.{◌≡◌, ℕ, Bool, true, false, cond, List, [], ◌∷◌, map, Some, None, Option}
use Rattle.std.specs.List.{AllByRecursion}
use Rattle.figures.specs.Limits.{is_within}
use Rattle.book.specs.FairSlips.{FairSlips}
use Rattle.book.specs.Makes.{board_of}
use Rattle.book.specs.Moments.{without}
use Rattle.book.specs.Prices.{TradePasses}
use Rattle.book.specs.Tables.{At, Rows, place}
use Rattle.book.specs.declared.frame.Frame.{Frame}
use Rattle.book.specs.declared.order.Order.{Order}
use Rattle.book.specs.declared.quote.Quote.{Quote}
use Rattle.book.specs.declared.slip.Cause.TheVariants.{Cancelled}
use Rattle.book.specs.declared.slip.Slip.{Slip}
use Rattle.book.specs.declared.slip.Slip.TheVariants.{Out}
use Rattle.session.specs.Calls.{order_of, quote_from}
use Rattle.session.specs.Days.{Day, State}
use Rattle.session.specs.Phases.{opening_of, quote_of}
use Rattle.session.specs.Stories.{Call, Enter, Cancel, Quoting, Withdraw, Collect, Validate, Decline, Clock, Renew, Reply, Refused, Answered, Handed, Event}
use Rattle.session.specs.StoryCounts.{slips_of}
use Rattle.session.specs.declared.answer.Answer.{Answer}

-- the governing bid and ask, the RFE that was open before the call, and Limit 2 around the dynamic price before the call
abbrev pub judge : Day → State → Bool → Quote → Frame
judge d s is_enter q =
    record {
      bid = q.bid;
      ask = q.ask;
      opener = opening_of s.phase;
      entered = is_enter;
      dynamic = s.dynamic;
      limit = (d.means d.reference).limit2;
    }

-- from these rows, with the governing quote standing or gone; with none to govern there is no slip
abbrev pub FairUnder : Day → State → Bool → Rows → Bool → Option Quote → List Slip → Type 0
FairUnder d s is_enter rows stands None slips = slips ≡ []
FairUnder d s is_enter rows stands (Some q) slips =
    FairSlips d.rank (judge d s is_enter q) (board_of rows (cond stands (Some q) None) false) slips

-- the cancelled order of this sender goes out first, with all its pieces
pub record FairCancel (d : Day) (s : State) (sender ticket : ℕ) (slips : List Slip) : Type 0 where
  pub place : ℕ
  pub order : Order
  pub stands : At s.table.rows place order
  pub sent : order.sender ≡ sender
  pub named : order.ticket ≡ ticket
  pub rest : List Slip
  pub first : slips ≡ Out Cancelled ticket order.pieces ∷ rest
  pub fair : FairUnder d s false (map (without ticket) s.table.rows) true (quote_of s.phase) rest

-- the quote standing before the call governs; of quote and validate the new one does
abbrev pub FairAnswer : Day → State → Call → Answer → List Slip → Type 0
FairAnswer d s (Enter e) a slips = FairUnder d s true (place (order_of e a.number) s.table.rows) true (quote_of s.phase) slips
FairAnswer d s (Cancel sender ticket) a slips = FairCancel d s sender ticket slips
FairAnswer d s (Quoting o flagged) a slips = FairUnder d s false s.table.rows true (Some (quote_from o flagged a.number)) slips
FairAnswer d s Withdraw a slips = FairUnder d s false s.table.rows false (quote_of s.phase) slips
FairAnswer d s Collect a slips = slips ≡ []
FairAnswer d s (Validate o flagged) a slips = FairUnder d s false s.table.rows true (Some (quote_from o flagged a.number)) slips
FairAnswer d s Decline a slips = FairUnder d s false s.table.rows false (quote_of s.phase) slips
FairAnswer d s (Clock seconds) a slips = FairUnder d s false s.table.rows false (quote_of s.phase) slips
FairAnswer d s Renew a slips = slips ≡ []

abbrev pub FairReply : Day → State → Call → Reply → List Slip → Type 0
FairReply d s c (Refused fault) slips = slips ≡ []
FairReply d s c (Answered a) slips = FairAnswer d s c a slips
FairReply d s c (Handed summons) slips = slips ≡ []

abbrev pub FairEvent : Day → Event → Type 0
FairEvent d e = FairReply d e.before e.call e.reply (slips_of e)

-- Limit 1 lies around the reference
abbrev pub in_limit1 : Day → ℕ → Bool
in_limit1 d price = is_within price d.reference (d.means d.reference).limit1

abbrev pub PricedEvent : Day → Event → Type 0
PricedEvent d e = AllByRecursion (TradePasses (in_limit1 d)) (slips_of e)
