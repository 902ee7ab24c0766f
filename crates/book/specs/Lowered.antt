-- What stands after a cross stood before it, perhaps with fewer pieces.
use Rattle.std.specs.Prelude.{◌≡◌, ℕ, ◌≤◌, Some, Option}
use Rattle.book.specs.Proposals.{Order, Quote}
use Rattle.book.specs.Tables.{Rows, At}

-- an order is the same as another but for its pieces
pub record Lowered (new old : Order) : Type 0 where
  pub ticket : new.ticket ≡ old.ticket
  pub sender : new.sender ≡ old.sender
  pub side : new.side ≡ old.side
  pub price : new.price ≡ old.price
  pub brief : new.brief ≡ old.brief
  pub pieces : new.pieces ≤ old.pieces

-- nothing new: each order that stands stood before, at the same place
abbrev pub Shrinks : Rows → Rows → Type 0
Shrinks new old = (i : ℕ) (o : Order) → At new i o → (was : Order) × (At old i was) × Lowered o was

pub record LoweredQuote (new old : Quote) : Type 0 where
  pub number : new.number ≡ old.number
  pub bid : new.bid ≡ old.bid
  pub ask : new.ask ≡ old.ask
  pub flagged : new.flagged ≡ old.flagged
  pub bid_pieces : new.bid_pieces ≤ old.bid_pieces
  pub ask_pieces : new.ask_pieces ≤ old.ask_pieces

abbrev pub KeepsQuote : Option Quote → Option Quote → Type 0
KeepsQuote new old = (q : Quote) → new ≡ Some q → (was : Quote) × (old ≡ Some was) × LoweredQuote q was
