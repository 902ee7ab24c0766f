-- A number from its digits, and its digits from a number.
use Rattle.std.proofs.Common.{◌≡◌, ℕ, ◌-◌, ◌^◌, ◌<◌, ◌≤◌, List, [], ◌∷◌, length, get_or, take, drop, Some, Err, refl, ap, zero-lt-suc, arith, take_all}
use native.Mathlib.Nat.{pow-le-pow_right}
use Rattle.std.proofs.lemmas.Bool.Decides.{nat_tests}
use Rattle.records.specs.Reading.{body_of, digit_of, line_of, unreadable}

-- with fewer than eight digits read, the next one fits
pub small : (i n : ℕ) → i < 8 → n < 10 ^ i → n < 10000000
small i n h l = let k : i ≤ 7 = omega arith in let top : 10 ^ i ≤ 10 ^ 7 = pow-le-pow_right (zero-lt-suc 9) k in omega arith

pub low : (b d : ℕ) → digit_of b ≡ Some d → d < 10
low b d e = grind (arith, nat_tests)

-- a record taken apart by its first two bytes
pub apart : (bs : List ℕ) → 2 ≤ length bs → body_of (get_or bs 0 0) (get_or bs 1 0) (take (length bs - 2) (drop 2 bs)) ≡ line_of bs
unfolding line_of
apart [] h = absurd (omega arith)
apart (a ∷ []) h = absurd (omega arith)
apart (a ∷ b ∷ bs) h = ap (body_of a b) (take_all (length (a ∷ b ∷ bs) - 2) bs (omega arith))

pub short : (bs : List ℕ) → length bs < 2 → line_of bs ≡ Err unreadable
unfolding line_of
short [] h = refl
short (a ∷ []) h = refl
short (a ∷ b ∷ bs) h = absurd (omega arith)
