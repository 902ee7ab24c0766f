-- How far a price may lie from its base.
use Rattle.std.specs.Prelude.{ℕ, ◌+◌, ◌-◌, ◌*◌, Bool, nat_le}

-- one of the two differences is 0, since `-` stops there
abbrev pub distance : ℕ → ℕ → ℕ
distance a b = (a - b) + (b - a)

-- the price differs from the base by at most `limit` percent of the base
abbrev pub is_within : ℕ → ℕ → ℕ → Bool
is_within price base limit = nat_le (distance price base * 100) (limit * base)
