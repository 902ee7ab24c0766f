-- Prices in points, and their ticks.
use Rattle.std.specs.Prelude.{ℕ, ◌%◌, Bool, ◌&&◌, List, [], ◌∷◌, ◌==◌, nat_le}
use Rattle.figures.specs.Bands.{band_of, row}
use Rattle.figures.specs.declared.band.Band.{Band}

abbrev pub tick_rows : List (Band ℕ)
tick_rows = row 50 1 ∷ row 1000 5 ∷ row 10000 10 ∷ row 30000 50 ∷ []

-- the tick of the band that the price itself lies in
abbrev pub tick_of : ℕ → ℕ
tick_of price = band_of 100 tick_rows price

abbrev pub on_tick : ℕ → Bool
on_tick price = price % tick_of price == 0

abbrev pub in_range : ℕ → Bool
in_range price = nat_le 1 price && nat_le price 99999999

abbrev pub is_price : ℕ → Bool
is_price price = in_range price && on_tick price
