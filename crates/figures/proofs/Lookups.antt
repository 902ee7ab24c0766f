-- The lookup in a table of bands.
use Rattle.std.specs.Prelude.{◌≡◌, ℕ, zero, suc, ◌+◌, ◌<◌, ◌≤◌, true, false, cond, List, [], ◌∷◌, length, get_or, drop, nat_le, slice_index_or, refl}
use Rattle.std.proofs.Common.{sym, ap, ◌∙◌, suc-le-suc, le_of_suc-le-suc, not-suc-le-zero, zero-lt-suc, le-leb}
use Rattle.std.proofs.lemmas.List.{at_drop_more}
use Rattle.std.proofs.lemmas.Bool.{lt-leb}
use Rattle.figures.specs.Bands.{FirstReach, band_of, reach_of}
use Rattle.figures.specs.declared.band.Band.{Band}

module _ {T : Type 0} (above : T) (rows : List (Band T)) (at i : ℕ) (b : Band T) (within : i < length rows) (is : b ≡ slice_index_or rows i b) where
  step : band_of above (drop i rows) at ≡ cond (nat_le at b.up_to) b.value (band_of above (drop (i + 1) rows) at)
  step =
      at_drop_more (λ bs. band_of above bs at) rows i b within ∙ ap (λ (x : Band T). band_of above (x ∷ drop (i + 1) rows) at) (sym is)

  pub hit : reach_of b at ≡ true → band_of above (drop i rows) at ≡ b.value
  hit h = step ∙ ap (λ t. cond t b.value (band_of above (drop (i + 1) rows) at)) h

  pub miss : reach_of b at ≡ false → band_of above (drop i rows) at ≡ band_of above (drop (i + 1) rows) at
  miss h = step ∙ ap (λ t. cond t b.value (band_of above (drop (i + 1) rows) at)) h

module _ {T : Type 0} (above : T) (at : ℕ) where
  pub reached : (rows : List (Band T)) (i : ℕ) (b : Band T) → i < length rows → slice_index_or rows i b ≡ b → at ≤ b.up_to → ((j : ℕ) → j < i → (get_or rows j b).up_to < at) → band_of above rows at ≡ b.value
  reached [] i b h e u l = absurd (not-suc-le-zero h)
  reached (r ∷ rs) zero b h e u l =
      ap (λ (x : Band T). band_of above (x ∷ rs) at) e ∙ ap (λ t. cond t b.value (band_of above rs at)) (le-leb at b.up_to u)
  reached (r ∷ rs) (suc i) b h e u l =
      ap (λ t. cond t r.value (band_of above rs at)) (lt-leb at r.up_to (l zero (zero-lt-suc i)))
      ∙ reached rs i b (le_of_suc-le-suc h) e u (λ j k. l (suc j) (suc-le-suc k))

  pub unreached : (rows : List (Band T)) → ((j : ℕ) (b : Band T) → j < length rows → (get_or rows j b).up_to < at) → band_of above rows at ≡ above
  unreached [] l = refl
  unreached (r ∷ rs) l =
      ap (λ t. cond t r.value (band_of above rs at)) (lt-leb at r.up_to (l zero r (zero-lt-suc (length rs))))
      ∙ unreached rs (λ j b k. l (suc j) b (suc-le-suc k))

  pub first_reach : (rows : List (Band T)) → FirstReach above rows at (band_of above rows at)
  first_reach rows = record { reached = reached rows; unreached = unreached rows }
