use Rattle.std.proofs.Common.{◌≡◌, ◌-◌, ◌/◌, ◌^◌, length, drop}
use Rattle.records.specs.Writing.{digits_of}
use Rattle.records.proofs.write.digits.Given as goal

-- from `place` on stand the last digits, and what is left is without them
abbrev pub invariant-loop-place : goal.invariant-loop-place
invariant-loop-place g l =
    (length l.digits ≡ g.row.N)
    × (l.left ≡ l.n / 10 ^ (g.row.N - l.place))
    × (drop l.place l.digits ≡ digits_of (g.row.N - l.place) l.n)
