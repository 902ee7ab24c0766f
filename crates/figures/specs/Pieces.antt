-- How many pieces an order, or one side of a quote, may have.
use Rattle.std.specs.Prelude.{ℕ, ◌*◌, Bool, ◌&&◌, nat_le}

-- 1 to 10,000,000, and worth at most the turnover at the reference and at the price:
-- the turnover is in whole currency, of which a point is a ten-thousandth
abbrev pub are_allowed : ℕ → ℕ → ℕ → ℕ → Bool
are_allowed pieces price reference turnover =
    nat_le 1 pieces && (nat_le pieces 10000000 && (nat_le (pieces * reference) (turnover * 10000) && nat_le (pieces * price) (turnover * 10000)))
