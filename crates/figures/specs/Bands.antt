-- The lookup in a table of bands.
use Rattle.std.specs.Prelude.{◌≡◌, ℕ, ◌<◌, ◌≤◌, Bool, cond, List, [], ◌∷◌, length, get_or, nat_le, slice_index_or}
use Rattle.figures.specs.declared.band.Band.{Band}

abbrev pub reach_of : {T : Type 0} → Band T → ℕ → Bool
reach_of b at = nat_le at b.up_to

-- the value of the first row whose bound is at or above `at`; above them all, `above`
abbrev pub band_of : {T : Type 0} → T → List (Band T) → ℕ → T
band_of above [] at = above
band_of above (b ∷ bs) at = cond (reach_of b at) b.value (band_of above bs at)

abbrev pub row : {T : Type 0} → ℕ → T → Band T
row u v = record { up_to = u; value = v }

-- what the lookup means, row by row: r is the value of the row that reaches `at` with none before it that does,
-- and `above` where no row reaches
pub record FirstReach {T : Type 0} (above : T) (rows : List (Band T)) (at : ℕ) (r : T) : Type 0 where
  pub reached : (i : ℕ) (b : Band T) → i < length rows → slice_index_or rows i b ≡ b → at ≤ b.up_to → ((j : ℕ) → j < i → (get_or rows j b).up_to < at) → r ≡ b.value
  pub unreached : ((j : ℕ) (b : Band T) → j < length rows → (get_or rows j b).up_to < at) → r ≡ above
