use Rattle.std.proofs.Common.{Bool}
use Rattle.book.specs.Proposals.{Order}
use Rattle.book.specs.Searches.{Compares, Tests}
use Rattle.book.proofs.Scans.{Goes}
use Rattle.book.proofs.first.best.Given as goal

abbrev pub invariant-loop-place : goal.invariant-loop-place
invariant-loop-place g l =
    (ok : Order → Bool) (ahead : Order → Order → Bool) → Tests g.P.Fn l.passes ok → Compares g.B.Fn l.before ahead →
    Goes ahead ok l.rows l.best l.place
