-- What a caller gets who lends the bytes that a key is written into.
use Rattle.std.specs.Prelude.{◌≡◌, ℕ, ◌<◌, List, length, take, Some, None, Option}

-- the key, from the first byte on, and how long it is; or there were too few bytes
abbrev pub Lent : List ℕ → ℕ → List ℕ → Option ℕ → Type 0
Lent key room bytes None = room < length key
Lent key room bytes (Some n) = (n ≡ length key) × (take n bytes ≡ key)
