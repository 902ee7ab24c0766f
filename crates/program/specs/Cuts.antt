-- An input is cut every forty bytes.
use Rattle.std.specs.Prelude.{◌≡◌, ℕ, zero, suc, ◌≤◌, List, [], ◌∷◌, ◌++◌, length, take, drop}

-- at most n pieces
unfoldable pub cut : ℕ → List ℕ → List (List ℕ)
cut zero bytes = []
cut (suc n) [] = []
cut (suc n) (b ∷ bs) = take 40 (b ∷ bs) ∷ cut n (drop 40 (b ∷ bs))

-- an input has no more pieces than bytes
abbrev pub pieces : List ℕ → List (List ℕ)
pieces bytes = cut (length bytes) bytes

-- what it is to be cut every forty bytes: nothing is lost, each piece has forty bytes, and only the last may have fewer
abbrev pub joined : List (List ℕ) → List ℕ
joined [] = []
joined (p ∷ ps) = p ++ joined ps

abbrev pub Sized : List (List ℕ) → Type 0
Sized [] = Unit {0}
Sized (p ∷ []) = (1 ≤ length p) × (length p ≤ 40)
Sized (p ∷ q ∷ ps) = (length p ≡ 40) × Sized (q ∷ ps)

pub record CutEvenly (bytes : List ℕ) : Type 0 where
  pub whole : joined (pieces bytes) ≡ bytes
  pub sized : Sized (pieces bytes)
