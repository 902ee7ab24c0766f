-- The totals of a book that a call works on are low.
use Rattle.std.proofs.Common.{arith}
use Rattle.session.specs.Bounds.{Bounded, Low}
use Rattle.session.specs.Days.{State}

pub low_of : (s : State) → Bounded s → Low s.totals
low_of s b = record { done = omega (arith, b.count, b.accepted, b.done); out = omega (arith, b.count, b.accepted, b.out) }
