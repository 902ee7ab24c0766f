use Rattle.std.proofs.Common.{◌≡◌, ◌≤◌, ◌++◌, length, take}
use Rattle.program.specs.Cuts.{pieces}
use Rattle.program.specs.Written.{written}
use Rattle.program.proofs.lent.key_into.Given as goal

-- what is written so far, and what the rest of the input will be answered
abbrev pub invariant-loop-piece : goal.invariant-loop-piece
invariant-loop-piece g l =
    (l.piece-iterator.size ≡ 40)
    × (l.at ≤ length l.out)
    × (length l.out ≡ length l.initial.out)
    × (take l.at l.out ++ written (g.C.Clerk.tells l.clerk (pieces l.piece-iterator.rest.now)) ≡ written (g.C.Clerk.tells l.initial.clerk (pieces l.input)))
