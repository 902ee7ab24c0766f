-- The first free place, how many orders stand, and what a new order makes of the rows.
use Rattle.std.proofs.Common.{◌≡◌, ℕ, suc, ◌+◌, ◌<◌, [], ◌∷◌, length, set, Some, None, Option, sym, refl, ap, ◌∙◌, subst, is_none, arith}
use Rattle.std.specs.List.{position_from}
use Rattle.std.proofs.lemmas.Iterator.Adapters.{position_from-zero}
use Rattle.std.proofs.lemmas.List.Sums.{sum_by-cons}
use Rattle.book.specs.Proposals.{Order}
use Rattle.book.specs.Tables.{Rows, one, standing, free, place}
use Rattle.book.proofs.RowChanges.{standing_fits}

-- what the first free place, counted from `i`, says of the rows
abbrev Spot : Order → Rows → ℕ → Option ℕ → Type 0
Spot o rows i None = (place o rows ≡ rows) × (standing rows ≡ length rows)
Spot o rows i (Some p) = (k : ℕ) × (p ≡ i + k) × (place o rows ≡ set rows k (Some o)) × (standing rows < length rows)

spot_on : (o q : Order) (rs : Rows) (i : ℕ) (r : Option ℕ) → Spot o rs (i + 1) r → Spot o (Some q ∷ rs) i r
unfolding place
spot_on o q rs i None (e, n) =
    let s = sum_by-cons one (Some q) rs in
    (ap (λ z. Some q ∷ z) e, omega arith)
spot_on o q rs i (Some p) (k, is, e, l) =
    let s = sum_by-cons one (Some q) rs in
    (suc k, omega arith, ap (λ z. Some q ∷ z) e, omega arith)

spot : (o : Order) (rows : Rows) (i : ℕ) → Spot o rows i (position_from is_none i rows)
unfolding place
spot o [] i = (refl, refl)
spot o (None ∷ rs) i =
    let s = sum_by-cons one None rs in
    let l = standing_fits rs in
    (0, omega arith, refl, omega arith)
spot o (Some q ∷ rs) i = spot_on o q rs i (position_from is_none (i + 1) rs) (spot o rs (i + 1))

pub none_free : (o : Order) (rows : Rows) → None ≡ free rows → (place o rows ≡ rows) × (standing rows ≡ length rows)
none_free o rows is = subst (Spot o rows 0) (sym (is ∙ position_from-zero is_none rows)) (spot o rows 0)

pub some_free : (o : Order) (rows : Rows) (p : ℕ) → Some p ≡ free rows → (place o rows ≡ set rows p (Some o)) × (standing rows < length rows)
some_free o rows p is =
    let h = subst (Spot o rows 0) (sym (is ∙ position_from-zero is_none rows)) (spot o rows 0) in
    let e : h.0 ≡ p = omega arith in
    (subst (λ z. place o rows ≡ set rows z (Some o)) e h.2, h.3)
