-- The forty bytes that a line is written as.
use Rattle.std.specs.Prelude.{ℕ, zero, suc, ◌+◌, ◌/◌, ◌%◌, ◌^◌, ◌<◌, List, [], ◌∷◌, ◌++◌}
use Rattle.records.specs.declared.line.Line.{Line}

-- the last k decimal digits of n, the highest first
abbrev pub digits_of : ℕ → ℕ → List ℕ
digits_of zero n = []
digits_of (suc k) n = (48 + (n / 10 ^ k) % 10) ∷ digits_of k n

unfoldable pub bytes_of : Line → List ℕ
bytes_of l =
    (l.letter ∷ l.mark ∷ [])
    ++ digits_of 5 l.five
    ++ digits_of 8 l.first
    ++ digits_of 8 l.second
    ++ digits_of 8 l.third
    ++ digits_of 8 l.fourth
    ++ (10 ∷ [])

-- each number has room
pub record Fits (l : Line) : Type 0 where
  pub five : l.five < 100000
  pub first : l.first < 100000000
  pub second : l.second < 100000000
  pub third : l.third < 100000000
  pub fourth : l.fourth < 100000000
