-- What a caller gets who links the engine: as one number, since no option passes the border.
use Rattle.std.specs.Prelude.{◌≡◌, ◌⊎◌, List, ℕ, ◌<◌, length, take}

-- the key, from the first byte on, and how long it is; or the largest number, and there were too few bytes
abbrev pub Ported : List ℕ → ℕ → List ℕ → ℕ → Type 0
Ported key room bytes n = ((n ≡ length key) × (take n bytes ≡ key)) ⊎ ((n ≡ 18446744073709551615) × (room < length key))
