-- Every price of a trade was there before the cross.
use Rattle.std.specs.Prelude.{◌≡◌, ℕ, Bool, true, Some}
use Rattle.book.specs.Sides.{Side}
use Rattle.book.specs.Proposals.{Order, Quote, side_of}
use Rattle.book.specs.Tables.{At}
use Rattle.book.specs.Moves.{Board}
use Rattle.book.specs.Makes.{Slip, Trade, Out}

-- a test passed by every price that stands, as Limit 1 is
pub record AllPrices (test : ℕ → Bool) (b : Board) : Type 0 where
  pub orders : (i : ℕ) (o : Order) → At b.table.rows i o → test o.price ≡ true
  pub quote : (q : Quote) → b.quote ≡ Some q → (s : Side) → test (side_of q s).price ≡ true

-- a trade's price passes it too
abbrev pub TradePasses : (ℕ → Bool) → Slip → Type 0
TradePasses test (Trade price pieces buyer seller) = test price ≡ true
TradePasses test (Out cause ticket pieces) = Unit {0}
