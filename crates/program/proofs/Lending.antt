-- The bytes that a caller lends: what is written so far, and the text that is put behind it.
use Rattle.std.proofs.Common.{◌≡◌, ℕ, ◌+◌, ◌<◌, ◌≤◌, List, ◌++◌, length, take, Some, None, Option, ap, ◌∙◌, arith, length-append, length-take-le, MatchOption}
use Rattle.program.specs.Lent.{Lent}

module _ (out text key : List ℕ) (at : ℕ) (room : at ≤ length out) where
  -- where the text has no room, the key has none
  pub too_short : (rest : List ℕ) (all : ℕ) → all ≡ length out → (take at out ++ text) ++ rest ≡ key → length out < at + length text → all < length key
  too_short rest all a e h =
      omega (arith, a, h, ap length e, length-append (take at out ++ text) rest, length-append (take at out) text, length-take-le at out room)

  size : take at out ++ text ≡ key → length key ≡ at + length text
  size e = omega (arith, ap length e, length-append (take at out) text, length-take-le at out room)

  -- the last text
  pub lent : (r : Option ℕ) (new : List ℕ) (all : ℕ) → all ≡ length out → take at out ++ text ≡ key →
      MatchOption r (length out < at + length text) (λ n. (n ≡ at + length text) × (n ≤ length out) × (take n new ≡ take at out ++ text)) →
      Lent key all new r
  lent None new all a e h = omega (arith, a, h, size e)
  lent (Some n) new all a e h = (omega (arith, h.0, size e), h.2 ∙ e)
