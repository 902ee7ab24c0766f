-- What a move leaves, and the slip that it writes.
use Rattle.std.specs.Prelude.{ℕ, Bool, true, List, [], ◌∷◌, Some, None, Option, slice_set}
use Rattle.book.specs.Causes.{Cause, BeyondLimit}
use Rattle.book.specs.Sides.{Side, Buy, Sell}
use Rattle.book.specs.Proposals.{Order, Quote}
use Rattle.book.specs.Tables.{Rows, lower, lower_quote}
use Rattle.book.specs.Firsts.{Found}
use Rattle.book.specs.Moves.{Board, Move, Stop, Ask, Deal, Strike, Halt, Party}
pub use Rattle.book.specs.declared.slip.Slip.{Slip}
pub use Rattle.book.specs.declared.slip.Slip.TheVariants.{Trade, Out}
pub use Rattle.book.specs.declared.table.Table.{Table}

abbrev pub board_of : Rows → Option Quote → Bool → Board
board_of rows q halted = record { table = record { rows = rows }; quote = q; halted = halted }

-- one place changed
abbrev pub with_row : Board → ℕ → Option Order → Board
with_row b i row = board_of (slice_set b.table.rows i row) b.quote b.halted

abbrev pub on_quote : (Quote → Option Quote) → Option Quote → Option Quote
on_quote g None = None
on_quote g (Some q) = g q

-- one party of a trade has `n` pieces fewer
abbrev pub lower_party : Side → ℕ → Party → Board → Board
lower_party s n (Some f) b = with_row b f.place (lower n f.order)
lower_party s n None b = board_of b.table.rows (on_quote (lower_quote s n) b.quote) b.halted

-- a halt takes the quote away with the order
abbrev pub after : Move → Board → Board
after Stop b = b
after (Ask t) b = b
after (Deal x y p n) b = lower_party Sell n y (lower_party Buy n x b)
after (Strike c f) b = with_row b f.place None
after (Halt f) b = board_of (slice_set b.table.rows f.place None) None true

-- the ticket of a party, 0 for the quote
abbrev pub number : Party → ℕ
number (Some f) = f.order.ticket
number None = 0

abbrev pub traded : Party → Party → ℕ → ℕ → Slip
traded x y p n = Trade p n (number x) (number y)

abbrev pub gone : Cause → Found → Slip
gone c f = Out c f.order.ticket f.order.pieces

abbrev pub slip : Move → List Slip
slip Stop = []
slip (Ask t) = []
slip (Deal x y p n) = traded x y p n ∷ []
slip (Strike c f) = gone c f ∷ []
slip (Halt f) = gone BeyondLimit f ∷ []
