-- How long an RFE goes on, and why it ends.
use Rattle.std.specs.Prelude.{◌≡◌, ℕ, ◌≤◌, false, ◌⊎◌, List, map, length}
use Rattle.book.specs.Moments.{without}
use Rattle.book.specs.Picks.{reaches}
use Rattle.book.specs.Tables.{At}
use Rattle.book.specs.declared.order.Order.{Order}
use Rattle.book.specs.declared.quote.Quote.{Quote}
use Rattle.book.specs.declared.slip.Slip.{Slip}
use Rattle.session.specs.Days.{State}
use Rattle.session.specs.Phases.{Asked, Rfe, is_asked}
use Rattle.session.specs.Stories.{Call, Enter, Cancel, Quoting, Withdraw, Collect, Validate, Decline, Clock, Renew, Event}
use Rattle.session.specs.StoryCounts.{slips_of}

abbrev pub cancels : Call → ℕ
cancels (Enter e) = 0
cancels (Cancel sender ticket) = 1
cancels (Quoting o flagged) = 0
cancels Withdraw = 0
cancels Collect = 0
cancels (Validate o flagged) = 0
cancels Decline = 0
cancels (Clock seconds) = 0
cancels Renew = 0

-- no order reaches the quote any more, it is withdrawn, its summons is answered, or the second has come
abbrev pub Ends : Call → State → ℕ → Quote → Rfe → Type 0
Ends (Enter e) s held q r = ⊥
Ends (Cancel sender ticket) s held q r =
    (i : ℕ) (o : Order) → At (map (without ticket) s.table.rows) i o → reaches q o o.side ≡ false
Ends (Quoting o flagged) s held q r = ⊥
Ends Withdraw s held q r = Unit {0}
Ends Collect s held q r = ⊥
Ends (Validate o flagged) s held q r = held ≡ r.opener
Ends Decline s held q r = held ≡ r.opener
Ends (Clock seconds) s held q r = r.due ≤ seconds
Ends Renew s held q r = ⊥

-- an RFE goes on, and nothing but a cancelled order goes out, or it ends for a reason
abbrev pub RfeBy : Call → State → State → ℕ → List Slip → Type 0
RfeBy c s s' held slips =
    (q : Quote) (r : Rfe) → s.phase ≡ Asked q r →
    ((s'.phase ≡ Asked q r) × (length slips ≤ cancels c)) ⊎ ((is_asked s'.phase ≡ false) × Ends c s held q r)

abbrev pub RfeEvent : Event → Type 0
RfeEvent e = RfeBy e.call e.before e.after e.held (slips_of e)
