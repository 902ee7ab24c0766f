-- The edge values of the figures, at reference 100,000 on the leveraged sheet.
use Rattle.std.specs.Prelude.{◌≡◌, ℕ, true, false}
use Rattle.figures.specs.Limits.{is_within}
use Rattle.figures.specs.Pieces.{are_allowed}
use Rattle.figures.specs.Prices.{is_price}
use Rattle.figures.specs.Sheets.{Measures, leveraged}

abbrev reference : ℕ
reference = 100000

abbrev sheet : Measures
sheet = leveraged reference

pub record FigureEdges : Type 0 where
  pub fifty : is_price 50 ≡ true
  pub fifty_one : is_price 51 ≡ false
  pub fifty_five : is_price 55 ≡ true
  pub thousand : is_price 1000 ≡ true
  pub thousand_five : is_price 1005 ≡ false
  pub thousand_ten : is_price 1010 ≡ true
  pub at_limit1 : is_within 200000 reference sheet.limit1 ≡ true
  pub beyond_limit1 : is_within 200100 reference sheet.limit1 ≡ false
  pub at_limit2 : is_within 150000 reference sheet.limit2 ≡ true
  pub beyond_limit2 : is_within 150100 reference sheet.limit2 ≡ false
  pub most_pieces : are_allowed 500000 100000 reference sheet.turnover ≡ true
  pub too_many_pieces : are_allowed 500001 100000 reference sheet.turnover ≡ false
