-- A new order takes the first free place.
use Rattle.std.proofs.Common.{◌≡◌, ℕ, zero, suc, ◌+◌, ◌<◌, ◌≢◌, ◌⊎◌, [], ◌∷◌, length, Some, None, sum_by, Option, sym, refl, ap, ◌∙◌, inl, inr, ⊎_elim, arith}
use Rattle.std.proofs.lemmas.List.Sums.{sum_by-cons}
use Rattle.book.specs.Sound.{Distinct}
use Rattle.book.specs.Tables.{At, Rows, one, place, standing}
use Rattle.book.specs.declared.order.Order.{Order}

pub place_length : (o : Order) (rows : Rows) → length (place o rows) ≡ length rows
unfolding place
place_length o [] = refl
place_length o (None ∷ rs) = refl
place_length o (Some p ∷ rs) = ap suc (place_length o rs)

-- a sum over the rows to which a free place adds nothing has the new order more
pub place_sum : (f : Option Order → ℕ) → f None ≡ 0 → (o : Order) (rows : Rows) → standing rows < length rows → sum_by f
    (place o rows) ≡ sum_by f rows + f (Some o)
unfolding place
place_sum f z o [] h = absurd (omega arith)
place_sum f z o (None ∷ rs) h = omega (arith, sum_by-cons f (Some o) rs, sum_by-cons f None rs, z)
place_sum f z o (Some p ∷ rs) h =
    omega (
      arith,
      sum_by-cons f (Some p) (place o rs),
      sum_by-cons f (Some p) rs,
      place_sum f z o rs (omega (arith, sum_by-cons one (Some p) rs)),
    )

pub place_at : (o : Order) (rows : Rows) (i : ℕ) (p : Order) → At (place o rows) i p → At rows i p ⊎ (p ≡ o)
unfolding place
place_at o [] i p h = inl h
place_at o (None ∷ rs) zero p h = inr (cc)
place_at o (None ∷ rs) (suc i) p h = inl h
place_at o (Some x ∷ rs) zero p h = inl h
place_at o (Some x ∷ rs) (suc i) p h = place_at o rs i p h

pub place_distinct : (o : Order) (rows : Rows) → Distinct rows → ((i : ℕ) (p : Order) → At rows i p → p.ticket ≢ o.ticket) →
    Distinct (place o rows)
unfolding place
place_distinct o [] d n = d
place_distinct o (None ∷ rs) d n = go
  where
    go : Distinct (Some o ∷ rs)
    go zero zero x y a b e = refl
    go zero (suc j) x y a b e = let k : o ≡ x = cc in absurd (n (suc j) y b (sym e ∙ ap (λ z. z.ticket) (sym k)))
    go (suc i) zero x y a b e = let k : o ≡ y = cc in absurd (n (suc i) x a (e ∙ ap (λ z. z.ticket) (sym k)))
    go (suc i) (suc j) x y a b e = d (suc i) (suc j) x y a b e
place_distinct o (Some p ∷ rs) d n =
    go
    (place_distinct o rs (λ i j x y a b e. let k : suc i ≡ suc j = d (suc i) (suc j) x y a b e in omega arith)
    (λ i x a. n (suc i) x a))
  where
    new : (i : ℕ) (x : Order) → At (place o rs) i x → p.ticket ≢ x.ticket
    new i x a e =
        ⊎_elim (λ h. let k : zero ≡ suc i = d zero (suc i) p x refl h e in omega arith)
        (λ (k : x ≡ o). n zero p refl (e ∙ ap (λ z. z.ticket) k))
        (place_at o rs i x a)

    go : Distinct (place o rs) → Distinct (Some p ∷ place o rs)
    go ih zero zero x y a b e = refl
    go ih zero (suc j) x y a b e = let k : p ≡ x = cc in absurd (new j y b (ap (λ z. z.ticket) k ∙ e))
    go ih (suc i) zero x y a b e = let k : p ≡ y = cc in absurd (new i x a (ap (λ z. z.ticket) k ∙ sym e))
    go ih (suc i) (suc j) x y a b e = ap suc (ih i j x y a b e)
