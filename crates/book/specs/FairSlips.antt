-- The slips of a cross, each judged at its own moment.
use Rattle.std.specs.Prelude.{List, [], ◌∷◌}
use Rattle.book.specs.Ranks.{Rank}
use Rattle.book.specs.Moves.{Board, Frame}
use Rattle.book.specs.Makes.{Slip, Trade, Out}
use Rattle.book.specs.Moments.{past}
use Rattle.book.specs.Fair.{Fair}
use Rattle.book.specs.Outs.{GoesOut}

abbrev pub FairSlip : Rank → Frame → Board → Slip → Type 0
FairSlip rank f b (Trade price pieces buyer seller) = Fair rank f b price pieces buyer seller
FairSlip rank f b (Out cause ticket pieces) = GoesOut rank f b cause ticket pieces

-- the moment of a slip is the board before the cross, past the slips before it
abbrev pub FairSlips : Rank → Frame → Board → List Slip → Type 0
FairSlips rank f b [] = Unit {0}
FairSlips rank f b (s ∷ ss) = FairSlip rank f b s × FairSlips rank f (past s b) ss
