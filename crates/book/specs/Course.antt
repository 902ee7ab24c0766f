-- The laws that decide how a cross runs.
use Rattle.std.specs.Prelude.{◌≡◌, ℕ, false, Some, None}
use Rattle.book.specs.Proposals.{Order}
use Rattle.book.specs.Ranks.{Rank}
use Rattle.book.specs.Tables.{At}
use Rattle.book.specs.Moves.{Board, Frame}
use Rattle.book.specs.Cross.{Run}
use Rattle.book.specs.Moments.{past_all}
use Rattle.book.specs.FairSlips.{FairSlips}
use Rattle.book.specs.Asked.{Asked}
use Rattle.book.specs.Quiet.{Quiet}

pub record Course (rank : Rank) (f : Frame) (b : Board) (run : Run) : Type 0 where
  -- the slips tell all that changed, and each is as it has to be at its moment
  pub told : run.board ≡ past_all run.slips b
  pub fair : FairSlips rank f b run.slips
  -- at the end an RFE is asked ..
  pub asks : (t : ℕ) → run.asked ≡ Some t → Asked rank f run.board t
  -- .. or nothing more could trade, unless the book is halted, and no execute-and-cancel order is left
  pub quiet : run.asked ≡ None → run.board.halted ≡ false → Quiet run.board.table.rows run.board.quote
  pub spent : run.asked ≡ None → (i : ℕ) (o : Order) → At run.board.table.rows i o → o.brief ≡ false
