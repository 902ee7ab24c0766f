-- What an accepted call does, by the phase that it finds.
use Rattle.std.specs.Prelude.{ℕ, true, false, cond, [], ◌∷◌, Some, None, nat_le, slice_set}
use Rattle.book.specs.Firsts.{is_reached}
use Rattle.book.specs.Makes.{gone}
use Rattle.book.specs.Tables.{place}
use Rattle.book.specs.declared.found.Found.{Found}
use Rattle.book.specs.declared.order.Order.{Order}
use Rattle.book.specs.declared.quote.Quote.{Quote}
use Rattle.book.specs.declared.slip.Cause.TheVariants.{Cancelled}
use Rattle.book.specs.declared.slip.Slip.{Slip}
use Rattle.session.specs.Days.{Day, State}
use Rattle.session.specs.Phases.{Phase, Dark, Lit, Asked, Halted}
use Rattle.session.specs.Runs.{Acted, crossing, with_phase, with_rows}
pub use Rattle.session.specs.declared.act.Act.{Act}
pub use Rattle.session.specs.declared.act.Act.TheVariants.{Enter, Cancel, Put, Withdraw, Clock}

abbrev pub still : State → Acted
still s = record { state = s; slips = [] }

abbrev pub placing : State → Order → State
placing s o = with_rows s (place o s.table.rows)

-- in a lit book it crosses, in RFE the order waits
abbrev pub entering : Day → State → Order → Phase → Acted
entering d s o Dark = still s
entering d s o (Lit q) = crossing d (placing s o) q (Some q) true
entering d s o (Asked q r) = still (placing s o)
entering d s o (Halted until) = still s

abbrev pub first : Slip → Acted → Acted
first slip a = record { state = a.state; slips = slip ∷ a.slips }

abbrev pub freeing : State → Found → State
freeing s f = with_rows s (slice_set s.table.rows f.place None)

-- an RFE whose quote no order reaches any more ends
abbrev pub cancelling : Day → State → Phase → Acted
cancelling d s Dark = still s
cancelling d s (Lit q) = still s
cancelling d s (Asked q r) = cond (is_reached q s.table.rows) (still s) (crossing d s q (Some q) false)
cancelling d s (Halted until) = still s

-- a quote is replaced; one that ends an RFE too
abbrev pub putting : Day → State → Quote → Phase → Acted
putting d s q Dark = crossing d s q (Some q) false
putting d s q (Lit old) = crossing d s q (Some q) false
putting d s q (Asked old r) = crossing d s q (Some q) false
putting d s q (Halted until) = still s

-- the quote goes, and in RFE step B and the tail run under it
abbrev pub withdrawing : Day → State → Phase → Acted
withdrawing d s Dark = still s
withdrawing d s (Lit q) = still (with_phase s Dark)
withdrawing d s (Asked q r) = crossing d s q None false
withdrawing d s (Halted until) = still s

abbrev pub at_clock : State → ℕ → State
at_clock s seconds = record { clock = seconds; dynamic = s.dynamic; count = s.count; collected = s.collected; totals = s.totals; phase = s.phase; table = s.table }

-- a halt over by then leaves a dark book
abbrev pub restarted : State → ℕ → State
restarted s until = cond (nat_le until s.clock) (with_phase s Dark) s

-- an RFE due by then ends as by withdraw
abbrev pub ticking : Day → State → Phase → Acted
ticking d s Dark = still s
ticking d s (Lit q) = still s
ticking d s (Asked q r) = cond (nat_le r.due s.clock) (withdrawing d s (Asked q r)) (still s)
ticking d s (Halted until) = still (restarted s until)

abbrev pub acted : Day → State → Act → Acted
acted d s (Enter o) = entering d s o s.phase
acted d s (Cancel f) = first (gone Cancelled f) (cancelling d (freeing s f) s.phase)
acted d s (Put q) = putting d s q s.phase
acted d s Withdraw = withdrawing d s s.phase
acted d s (Clock seconds) = ticking d (at_clock s seconds) s.phase
