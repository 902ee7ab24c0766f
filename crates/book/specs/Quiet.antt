-- Nothing more could trade.
use Rattle.std.specs.Prelude.{◌≡◌, ℕ, ◌<◌, false, Some, Option}
use Rattle.book.specs.Sides.{Buy, Sell}
use Rattle.book.specs.Proposals.{Order, Quote}
use Rattle.book.specs.Picks.{reaches}
use Rattle.book.specs.Tables.{Rows, At}

-- no buy stands at or above a sell, and no order reaches the quote
pub record Quiet (rows : Rows) (quote : Option Quote) : Type 0 where
  pub apart : (i j : ℕ) (b s : Order) → At rows i b → At rows j s → b.side ≡ Buy → s.side ≡ Sell → b.price < s.price
  pub unreached : (q : Quote) (i : ℕ) (o : Order) → quote ≡ Some q → At rows i o → reaches q o o.side ≡ false
