-- What reads as a line is what that line is written as: no two pieces of forty bytes hold the same line.
use Rattle.std.proofs.Common.{◌≡◌, ℕ, ◌+◌, ◌-◌, ◌*◌, ◌/◌, ◌%◌, ◌^◌, ◌<◌, ◌≤◌, min, Bool, true, false, cond, ◌&&◌, eqb, List, [], ◌∷◌, ◌++◌, length, get_or, take, drop, Some, None, Ok, Err, Option, Result, sym, refl, ap, ◌∙◌, add-zero, mod-eq_of_lt, zero-lt-suc, pow-suc, div-one, arith, length-drop, take-append-drop, length-take, drop-cons, drop-drop}
use native.Mathlib.Nat.{div-div-eq-div-mul, mul-add-div_right, mul-add-mod_self_right, div-eq_of_lt}
use Rattle.std.proofs.lemmas.List.{drop_all}
use Rattle.std.proofs.lemmas.Bool.Decides.{nat_tests}
use Rattle.records.specs.Reading.{digit_of, field_at, line, line_of, more, number_from, number_of, or_unreadable, then, unreadable}
use Rattle.records.proofs.Digits.{low}
use Rattle.records.specs.declared.line.Line.{Line}
use Rattle.records.specs.declared.line.Unreadable.{Unreadable}
use Rattle.records.specs.Writing.{bytes_of, digits_of}

-- the byte of a digit, by the digit
digit_byte : (b d : ℕ) → digit_of b ≡ Some d → b ≡ 48 + d
digit_byte b d e = grind (arith, nat_tests)

abbrev Behind : List ℕ → ℕ → ℕ → Type 0
Behind bs m n = (n / 10 ^ length bs ≡ m) × (digits_of (length bs) n ≡ bs)

module _ (b : ℕ) (bs : List ℕ) (m n : ℕ) where
  one_more : (d : ℕ) → digit_of b ≡ Some d → Behind bs (m * 10 + d) n → Behind (b ∷ bs) m n
  one_more d is h =
      let small : d < 10 = low b d is in
      let k : ℕ = length bs in (
        ap (λ (x : ℕ). n / x) (pow-suc 10 k)
            ∙ sym (div-div-eq-div-mul n (10 ^ k) 10)
            ∙ ap (λ (x : ℕ). x / 10) h.0
            ∙ mul-add-div_right (zero-lt-suc 9) m d
            ∙ ap (λ (x : ℕ). m + x) (div-eq_of_lt small)
            ∙ add-zero m,
        ap (λ (x : ℕ). (48 + x % 10) ∷ digits_of k n) h.0
            ∙ ap (λ (x : ℕ). (48 + x) ∷ digits_of k n) (mul-add-mod_self_right m 10 d ∙ mod-eq_of_lt small)
            ∙ ap (λ (x : ℕ). x ∷ digits_of k n) (sym (digit_byte b d is))
            ∙ ap (λ (xs : List ℕ). b ∷ xs) h.1,
      )

  by_digit : ((l : ℕ) → number_from (Some l) bs ≡ Some n → Behind bs l n) → (o : Option ℕ) → digit_of b ≡ o → number_from (more o m) bs ≡ Some n → Behind (b ∷ bs) m n
  by_digit rest None is e = let z : ◌≡◌ {A = ℕ} 0 1 = cc in absurd (omega arith)
  by_digit rest (Some d) is e = one_more d is (rest (m * 10 + d) e)

-- behind m stand the digits of n
behind : (bs : List ℕ) (m n : ℕ) → number_from (Some m) bs ≡ Some n → Behind bs m n
behind [] m n e = let h : m ≡ n = cc in (div-one n ∙ sym h, refl)
behind (b ∷ bs) m n e = by_digit b bs m n (λ l. behind bs l n) (digit_of b) refl e

-- a field that reads as n has the digits of n
field_digits : (rest : List ℕ) (at size n : ℕ) → at + size ≤ length rest → field_at rest at size ≡ Ok n → take size (drop at rest) ≡ digits_of size n
field_digits rest at size n h e =
    let part : List ℕ = take size (drop at rest) in
    let l : length part ≡ size = length-take size (drop at rest) ∙ short in
    sym (behind part 0 n (number (number_of part) e)).1 ∙ ap (λ (k : ℕ). digits_of k n) l
  where
    short : min size (length (drop at rest)) ≡ size
    short = let d : length (drop at rest) ≡ length rest - at = length-drop at rest in omega arith

    number : (o : Option ℕ) → or_unreadable o ≡ Ok n → o ≡ Some n
    number None e = let z : ◌≡◌ {A = ℕ} 0 1 = cc in absurd (omega arith)
    number (Some m) e = cc

-- a chain that gives a line has a number at its first step
step_ok : (r : Result ℕ Unreadable) (f : ℕ → Result Line Unreadable) (l : Line) → then r f ≡ Ok l → (n : ℕ) × (r ≡ Ok n) × (f n ≡ Ok l)
step_ok (Err e) f l h = let z : ◌≡◌ {A = ℕ} 0 1 = cc in absurd (omega arith)
step_ok (Ok n) f l h = (n, refl, h)

-- thirty-eight bytes are five fields and a last byte
module _ (rest : List ℕ) (h : length rest ≡ 38) where
  part : ℕ → List ℕ
  part i = take 8 (drop i rest)

  next : (i : ℕ) → drop i rest ≡ part i ++ drop (i + 8) rest
  unfolding part
  next i = sym (take-append-drop 8 (drop i rest)) ∙ ap (λ (xs : List ℕ). part i ++ xs) (drop-drop 8 i rest)

  last : drop 37 rest ≡ get_or rest 37 0 ∷ []
  last = drop-cons rest 37 0 (omega arith) ∙ ap (λ (xs : List ℕ). get_or rest 37 0 ∷ xs) (drop_all 38 rest (omega arith))

  after : (i : ℕ) (later : List ℕ) → drop (i + 8) rest ≡ later → drop i rest ≡ part i ++ later
  after i later e = next i ∙ ap (λ (xs : List ℕ). part i ++ xs) e

  parts : rest ≡ take 5 rest ++ (part 5 ++ (part 13 ++ (part 21 ++ (part 29 ++ (get_or rest 37 0 ∷ [])))))
  parts = sym (take-append-drop 5 rest) ∙ ap (λ (xs : List ℕ). take 5 rest ++ xs) (after 5 _ (after 13 _ (after 21 _ (after 29 _ last))))

  same : (a b n₀ n₁ n₂ n₃ n₄ : ℕ) → get_or rest 37 0 ≡ 10 →
      field_at rest 0 5 ≡ Ok n₀ → field_at rest 5 8 ≡ Ok n₁ → field_at rest 13 8 ≡ Ok n₂ → field_at rest 21 8 ≡ Ok n₃ → field_at rest 29 8 ≡ Ok n₄ →
      a ∷ b ∷ rest ≡ bytes_of (line a b n₀ n₁ n₂ n₃ n₄)
  unfolding bytes_of part
  same a b n₀ n₁ n₂ n₃ n₄ end e₀ e₁ e₂ e₃ e₄ =
      let f₀ : take 5 rest ≡ digits_of 5 n₀ = field_digits rest 0 5 n₀ (omega arith) e₀ in
      let f₁ : part 5 ≡ digits_of 8 n₁ = field_digits rest 5 8 n₁ (omega arith) e₁ in
      let f₂ : part 13 ≡ digits_of 8 n₂ = field_digits rest 13 8 n₂ (omega arith) e₂ in
      let f₃ : part 21 ≡ digits_of 8 n₃ = field_digits rest 21 8 n₃ (omega arith) e₃ in
      let f₄ : part 29 ≡ digits_of 8 n₄ = field_digits rest 29 8 n₄ (omega arith) e₄ in
      ap (λ (xs : List ℕ). a ∷ b ∷ xs) (parts ∙ joined (take 5 rest) (part 5) (part 13) (part 21) (part 29) (get_or rest 37 0) _ _ _ _ _ _ f₀ f₁ f₂ f₃ f₄ end)
    where
      joined : (s t u v w : List ℕ) (x : ℕ) (s' t' u' v' w' : List ℕ) (x' : ℕ) → s ≡ s' → t ≡ t' → u ≡ u' → v ≡ v' → w ≡ w' → x ≡ x' →
          s ++ (t ++ (u ++ (v ++ (w ++ (x ∷ []))))) ≡ s' ++ (t' ++ (u' ++ (v' ++ (w' ++ (x' ∷ [])))))
      joined s t u v w x s' t' u' v' w' x' a b c d e f = cc

-- the chain of fields, one after another
chained : (a b : ℕ) (rest : List ℕ) (l : Line) → length rest ≡ 38 → get_or rest 37 0 ≡ 10 →
    then (field_at rest 0 5) (λ n. then (field_at rest 5 8) (λ p. then (field_at rest 13 8) (λ q. then (field_at rest 21 8) (λ r. then (field_at rest 29 8) (λ s. Ok (line a b n p q r s)))))) ≡ Ok l →
    a ∷ b ∷ rest ≡ bytes_of l
chained a b rest l len end e =
    let s₀ = step_ok (field_at rest 0 5) _ l e in
    let s₁ = step_ok (field_at rest 5 8) _ l s₀.2 in
    let s₂ = step_ok (field_at rest 13 8) _ l s₁.2 in
    let s₃ = step_ok (field_at rest 21 8) _ l s₂.2 in
    let s₄ = step_ok (field_at rest 29 8) _ l s₃.2 in
    let is : line a b s₀.0 s₁.0 s₂.0 s₃.0 s₄.0 ≡ l = inside s₄.2 in
    same rest len a b s₀.0 s₁.0 s₂.0 s₃.0 s₄.0 end s₀.1 s₁.1 s₂.1 s₃.1 s₄.1 ∙ ap bytes_of is
  where
    inside : {x y : Line} → ◌≡◌ {A = Result Line Unreadable} (Ok x) (Ok y) → x ≡ y
    inside e = cc

-- the test of the length and of the newline
tested : (n b : ℕ) → (eqb n 38 && eqb b 10) ≡ true → (n ≡ 38) × (b ≡ 10)
tested n b e = grind (arith, nat_tests)

pub exact : (bytes : List ℕ) (l : Line) → line_of bytes ≡ Ok l → bytes ≡ bytes_of l
unfolding line_of
exact [] l e = let z : ◌≡◌ {A = ℕ} 0 1 = cc in absurd (omega arith)
exact (a ∷ []) l e = let z : ◌≡◌ {A = ℕ} 0 1 = cc in absurd (omega arith)
exact (a ∷ b ∷ rest) l e = by_test (eqb (length rest) 38 && eqb (get_or rest 37 0) 10) refl e
  where
    chain : Result Line Unreadable
    chain =
        then (field_at rest 0 5) (λ n. then (field_at rest 5 8) (λ p. then (field_at rest 13 8) (λ q. then (field_at rest 21 8) (λ r. then (field_at rest 29 8) (λ s. Ok (line a b n p q r s))))))

    by_test : (t : Bool) → (eqb (length rest) 38 && eqb (get_or rest 37 0) 10) ≡ t → cond t chain (Err unreadable) ≡ Ok l → a ∷ b ∷ rest ≡ bytes_of l
    by_test true is e = let t = tested (length rest) (get_or rest 37 0) is in chained a b rest l t.0 t.1 e
    by_test false is e = let z : ◌≡◌ {A = ℕ} 0 1 = cc in absurd (omega arith)
