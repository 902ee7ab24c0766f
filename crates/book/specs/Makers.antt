-- The Specialist's side while a cross runs.
use Rattle.std.specs.Prelude.{Bool, true, false, Some, None, Option}
use Rattle.book.specs.Boards.{Board}
use Rattle.book.specs.Makes.{board_of}
use Rattle.book.specs.Proposals.{Quote}
use Rattle.book.specs.Tables.{Rows}
pub use Rattle.book.specs.declared.crossed.Maker.{Maker}
pub use Rattle.book.specs.declared.crossed.Maker.TheVariants.{Gone, Stands, Halted}

abbrev pub quote_of : Maker → Option Quote
quote_of Gone = None
quote_of (Stands q) = Some q
quote_of Halted = None

abbrev pub is_halted : Maker → Bool
is_halted Gone = false
is_halted (Stands q) = false
is_halted Halted = true

-- the board of these orders and that side
abbrev pub board_with : Rows → Maker → Board
board_with rows m = board_of rows (quote_of m) (is_halted m)
