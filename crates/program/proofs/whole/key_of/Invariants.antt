use Rattle.std.proofs.Common.{◌≡◌, ◌++◌, vec_items}
use Rattle.program.specs.Cuts.{pieces}
use Rattle.program.specs.Written.{written}
use Rattle.program.proofs.whole.key_of.Given as goal

-- what is written so far, and what the rest of the input will be answered
abbrev pub invariant-loop-piece : goal.invariant-loop-piece
invariant-loop-piece g l =
    (l.piece-iterator.size ≡ 40)
    × (vec_items l.key ++ written (g.C.Clerk.tells l.clerk (pieces l.piece-iterator.rest.now)) ≡ written (g.C.Clerk.tells l.initial.clerk (pieces l.input)))
