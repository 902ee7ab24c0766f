-- Sheets: what one means, the law that it keeps, and those of the two products.
use Rattle.std.specs.Prelude.{ℕ, ◌≤◌, List, [], ◌∷◌}
use Rattle.figures.specs.Bands.{band_of, row}
use Rattle.figures.specs.declared.band.Band.{Band}
pub use Rattle.figures.specs.declared.sheet.product.Limits.{Limits}
pub use Rattle.figures.specs.declared.sheet.product.Product.{Product}
pub use Rattle.figures.specs.declared.sheet.product.Product.TheVariants.{Leveraged, Investment}

-- the three numbers for one reference price: both limits in percent, the turnover in whole currency
pub record Measures : Type 0 where
  pub limit1 : ℕ
  pub limit2 : ℕ
  pub turnover : ℕ

abbrev pub measures : ℕ → ℕ → ℕ → Measures
measures one two most = record { limit1 = one; limit2 = two; turnover = most }

-- the law of a sheet, at every reference price
pub record Lawful (means : ℕ → Measures) : Type 0 where
  pub limit1 : (reference : ℕ) → (means reference).limit1 ≤ 2000
  pub limit2 : (reference : ℕ) → (means reference).limit2 ≤ 2000
  pub some : (reference : ℕ) → 1 ≤ (means reference).turnover
  pub few : (reference : ℕ) → (means reference).turnover ≤ 10000000

-- ---- the sheets of the two products

-- Limit 1, and Limit 2 of either product
abbrev pub limits : ℕ → ℕ → ℕ → Limits
limits one two_leveraged two_investment = record { one = one; leveraged = two_leveraged; investment = two_investment }

abbrev pub limit_rows : List (Band Limits)
limit_rows =
    row 50 (limits 2000 800 400)
    ∷ row 1000 (limits 600 300 150)
    ∷ row 10000 (limits 300 150 75)
    ∷ row 30000 (limits 200 100 50)
    ∷ row 300000 (limits 100 50 25)
    ∷ row 700000 (limits 60 20 10)
    ∷ row 900000 (limits 30 12 6)
    ∷ row 3000000 (limits 20 10 5)
    ∷ []

abbrev pub limits_above : Limits
limits_above = limits 15 6 3

abbrev pub limits_at : ℕ → Limits
limits_at reference = band_of limits_above limit_rows reference

abbrev pub limit_two : Product → Limits → ℕ
limit_two Leveraged l = l.leveraged
limit_two Investment l = l.investment

abbrev pub most_turnover : Product → ℕ
most_turnover Leveraged = 5000000
most_turnover Investment = 10000000

abbrev pub product : Product → ℕ → Measures
product p reference = measures (limits_at reference).one (limit_two p (limits_at reference)) (most_turnover p)

abbrev pub leveraged : ℕ → Measures
leveraged = product Leveraged

abbrev pub investment : ℕ → Measures
investment = product Investment
