use Rattle.std.proofs.Common.{◌≡◌, ℕ, suc, ◌+◌, ◌-◌, ◌/◌, ◌%◌, ◌^◌, ◌<◌, ◌≤◌, List, ◌∷◌, length, drop, set, sym, ap, ◌∙◌, pow-suc, arith, length-set}
use native.Mathlib.Nat.{div-div-eq-div-mul}
use Rattle.std.proofs.lemmas.List.{drop-set}
use Rattle.records.specs.Writing.{digits_of}
use Rattle.records.proofs.write.digits.Goals as goal

module _ (n : ℕ) where
  -- one digit less is left
  fewer : (k left : ℕ) → left ≡ n / 10 ^ k → left / 10 ≡ n / 10 ^ suc k
  fewer k left is = ap (λ (x : ℕ). x / 10) is ∙ div-div-eq-div-mul n (10 ^ k) 10 ∙ ap (λ (x : ℕ). n / x) (sym (pow-suc 10 k))

  -- one digit more is written
  more : (k i left : ℕ) (xs : List ℕ) → i < length xs → left ≡ n / 10 ^ k → drop (i + 1) xs ≡ digits_of k n →
      drop i (set xs i (48 + left % 10)) ≡ digits_of (suc k) n
  more k i left xs inside is later = drop-set xs i (48 + left % 10) inside ∙ (λ j. (48 + is j % 10) ∷ later j)

pub loop-place-preserved : goal.loop-place-preserved
loop-place-preserved g c =
    let n = c.args.n in
    let i : ℕ = c.loop-place.place - 1 in
    let k : ℕ = g.row.N - c.loop-place.place in
    let inv = c.loop-place.invariant in
    let above : 0 < c.loop-place.place = c.loop-place-test.true in
    let within : c.loop-place.place ≤ g.row.N = c.loop-place.auto.place in
    let back : c.loop-place.place ≡ i + 1 = omega arith in
    let size : g.row.N - i ≡ suc k = omega arith in (
      length-set c.loop-place.digits i _ ∙ inv.0,
      fewer n k c.loop-place.left inv.1 ∙ ap (λ m. n / 10 ^ m) (sym size),
      more n k i c.loop-place.left c.loop-place.digits (omega (arith, inv.0)) inv.1 (ap (λ m. drop m c.loop-place.digits) (sym back) ∙ inv.2)
          ∙ ap (λ m. digits_of m n) (sym size),
    )
