-- The two sides of a market.
use Rattle.std.specs.Prelude.{Bool, true, false}
pub use Rattle.book.specs.declared.side.Side.{Side}
pub use Rattle.book.specs.declared.side.Side.TheVariants.{Buy, Sell}

abbrev pub opposite : Side → Side
opposite Buy = Sell
opposite Sell = Buy

abbrev pub same_side : Side → Side → Bool
same_side Buy Buy = true
same_side Buy Sell = false
same_side Sell Buy = false
same_side Sell Sell = true
