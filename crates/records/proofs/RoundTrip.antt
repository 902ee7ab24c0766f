-- What is written of a line is read back as that line.
use Rattle.std.proofs.Common.{◌≡◌, ℕ, zero, suc, ◌+◌, ◌*◌, ◌/◌, ◌%◌, ◌^◌, ◌<◌, List, ◌∷◌, replicate, Some, Ok, refl, ap, ◌∙◌, mod-lt, mod-eq_of_lt, zero-lt-suc, mul_assoc, add-mul, zero-add, zero-mul, arith}
use native.Mathlib.Nat.{pow-succ', one-le-pow}
use lib.Arith.{mod-mul}
use borrow.Rule.Slice.PartMut.{put_mid}
use Rattle.std.proofs.lemmas.Bool.Decides.{nat_tests}
use Rattle.records.specs.Reading.{digit_of, line, line_of, more, number_from, number_of, or_unreadable, then}
use Rattle.records.specs.Writing.{Fits, bytes_of, digits_of}
use Rattle.records.specs.declared.line.Line.{Line}

-- the parts of a line put where they belong
unfoldable laid : Line → List ℕ → List ℕ → List ℕ → List ℕ → List ℕ → List ℕ
laid l n a b c d =
    put_mid 31 8 (put_mid 23 8 (put_mid 15 8 (put_mid 7 8 (put_mid 2 5 (l.letter ∷ l.mark ∷ replicate 38 10) n) a) b) c) d

laid_digits : (l : Line) → laid l (digits_of 5 l.five) (digits_of 8 l.first) (digits_of 8 l.second) (digits_of 8 l.third) (digits_of 8 l.fourth) ≡ bytes_of l
unfolding laid bytes_of
laid_digits l = refl

pub laid_is : (l : Line) (n a b c d : List ℕ) →
    n ≡ digits_of 5 l.five → a ≡ digits_of 8 l.first → b ≡ digits_of 8 l.second → c ≡ digits_of 8 l.third → d ≡ digits_of 8 l.fourth →
    put_mid 31 8 (put_mid 23 8 (put_mid 15 8 (put_mid 7 8 (put_mid 2 5 (l.letter ∷ l.mark ∷ replicate 38 10) n) a) b) c) d ≡ bytes_of l
unfolding laid
laid_is l n a b c d e f g h i = same ∙ laid_digits l
  where
    same : laid l n a b c d ≡ laid l (digits_of 5 l.five) (digits_of 8 l.first) (digits_of 8 l.second) (digits_of 8 l.third) (digits_of 8 l.fourth)
    same = cc

digit_back : (d : ℕ) → d < 10 → digit_of (48 + d) ≡ Some d
digit_back d h = grind (arith, nat_tests)

-- m, and behind it the last k digits of n
number_digits : (k n m : ℕ) → number_from (Some m) (digits_of k n) ≡ Some (m * 10 ^ k + n % 10 ^ k)
number_digits zero n m = ap (λ (x : ℕ). Some x) (omega (arith, mod-lt n (zero-lt-suc 0)))
number_digits (suc k) n m =
    let d : ℕ = (n / 10 ^ k) % 10 in
    ap (λ o. number_from (more o m) (digits_of k n)) (digit_back d (mod-lt (n / 10 ^ k) (zero-lt-suc 9)))
    ∙ number_digits k n (m * 10 + d)
    ∙ ap (λ (x : ℕ). Some x) joined
  where
    high : n % 10 ^ suc k ≡ ((n / 10 ^ k) % 10) * 10 ^ k + n % 10 ^ k
    high = ap (λ (x : ℕ). n % x) (pow-succ' 10 k) ∙ mod-mul n (zero-lt-suc 9) (one-le-pow k 10 (zero-lt-suc 9))

    joined : (m * 10 + (n / 10 ^ k) % 10) * 10 ^ k + n % 10 ^ k ≡ m * 10 ^ suc k + n % 10 ^ suc k
    joined =
        let shifted : m * 10 ^ suc k ≡ m * (10 * 10 ^ k) = ap (λ (x : ℕ). m * x) (pow-succ' 10 k) in
        omega (arith, shifted, high, mul_assoc m 10 (10 ^ k), add-mul (m * 10) ((n / 10 ^ k) % 10) (10 ^ k))

number_back : (k n : ℕ) → n < 10 ^ k → or_unreadable (number_of (digits_of k n)) ≡ Ok n
number_back k n h = ap or_unreadable (number_digits k n 0 ∙ ap (λ (x : ℕ). Some x) (ap (λ (x : ℕ). 0 * 10 ^ k + x) (mod-eq_of_lt h) ∙ ap (λ (x : ℕ). x + n) (zero-mul (10 ^ k)) ∙ zero-add n))

pub read_written : (l : Line) → Fits l → line_of (bytes_of l) ≡ Ok l
unfolding line_of bytes_of
read_written l f =
    ap (λ r. then r (λ n. then (or_unreadable (number_of (digits_of 8 l.first))) (λ a. then (or_unreadable (number_of (digits_of 8 l.second))) (λ b. then (or_unreadable (number_of (digits_of 8 l.third))) (λ c. then (or_unreadable (number_of (digits_of 8 l.fourth))) (λ d. Ok (line l.letter l.mark n a b c d))))))) (number_back 5 l.five f.five)
    ∙ ap (λ r. then r (λ a. then (or_unreadable (number_of (digits_of 8 l.second))) (λ b. then (or_unreadable (number_of (digits_of 8 l.third))) (λ c. then (or_unreadable (number_of (digits_of 8 l.fourth))) (λ d. Ok (line l.letter l.mark l.five a b c d)))))) (number_back 8 l.first f.first)
    ∙ ap (λ r. then r (λ b. then (or_unreadable (number_of (digits_of 8 l.third))) (λ c. then (or_unreadable (number_of (digits_of 8 l.fourth))) (λ d. Ok (line l.letter l.mark l.five l.first b c d))))) (number_back 8 l.second f.second)
    ∙ ap (λ r. then r (λ c. then (or_unreadable (number_of (digits_of 8 l.fourth))) (λ d. Ok (line l.letter l.mark l.five l.first l.second c d)))) (number_back 8 l.third f.third)
    ∙ ap (λ r. then r (λ d. Ok (line l.letter l.mark l.five l.first l.second l.third d))) (number_back 8 l.fourth f.fourth)
