-- A list of which the first place was written, and the rest lent on.
use Rattle.std.proofs.Common.{◌≡◌, ℕ, suc, ◌-◌, ◌≤◌, List, [], ◌∷◌, ◌++◌, length, take, drop, set, sym, refl, ap, ◌∙◌, subst, append-nil, arith, take_all}
use lib.Seq.{sets}
use borrow.Rule.Slice.PartMut.{put_mid}
use Rattle.std.proofs.lemmas.List.{drop_all}
use Rattle.book.specs.Cross.{written}
use Rattle.book.specs.declared.slip.Slip.{Slip}

sets_behind : (x : Slip) (out slips : List Slip) (n : ℕ) → sets (x ∷ out) (suc n) slips ≡ x ∷ sets out n slips
sets_behind x out [] n = refl
sets_behind x out (y ∷ ys) n = sets_behind x (set out n y) ys (suc n)

lent_on : (x : Slip) (out slips part : List Slip) (k : ℕ) → k ≡ length out → part ≡ written slips (take k out) →
    x ∷ (part ++ drop k out) ≡ x ∷ sets out 0 slips
lent_on x out slips part k e p =
    ap (λ z. x ∷ (z ++ drop k out)) (p ∙ ap (written slips) (take_all k out (omega (arith, e))))
    ∙ ap (λ z. x ∷ (sets out 0 slips ++ z)) (drop_all k out (omega (arith, e)))
    ∙ ap (λ z. x ∷ z) (append-nil (sets out 0 slips))

pub first_then : (x : Slip) (slips old mid part : List Slip) → 1 ≤ length old → mid ≡ written (x ∷ []) old →
    part ≡ written slips (take (length mid - 1) (drop 1 mid)) → put_mid 1 (length mid - 1) mid part ≡ written (x ∷ slips) old
first_then x slips [] mid part some m p = absurd (omega (arith, some))
first_then x slips (o ∷ os) mid part some m p =
    subst (λ z. part ≡ written slips (take (length z - 1) (drop 1 z)) → put_mid 1 (length z - 1) z part ≡ written (x ∷ slips) (o ∷ os)) (sym m)
    (λ q. lent_on x os slips part (length (x ∷ os) - 1) (omega arith) q ∙ sym (sets_behind x os slips 0)) p
