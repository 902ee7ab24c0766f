-- What holds of every cross.
use Rattle.std.specs.Prelude.{◌≡◌, ℕ, ◌+◌, ◌≤◌, Bool, length, Some, None, Option}
use Rattle.std.specs.List.{AllByRecursion}
use Rattle.book.specs.Proposals.{Quote}
use Rattle.book.specs.Ranks.{Rank, RankLaw}
use Rattle.book.specs.Tables.{standing}
use Rattle.book.specs.Moves.{Board, Frame, Stop, next}
use Rattle.book.specs.Cross.{Run, cross}
use Rattle.book.specs.Course.{Course}
use Rattle.book.specs.Ledger.{Ledger}
use Rattle.book.specs.Lowered.{Shrinks, KeepsQuote}
use Rattle.book.specs.Prices.{AllPrices, TradePasses}
use Rattle.book.specs.Sound.{Sound}

-- how many quotes stand
abbrev pub quotes : Option Quote → ℕ
quotes None = 0
quotes (Some q) = 1

pub record CrossLaws (rank : Rank) (f : Frame) (b : Board) (run : Run) : Type 0 where
  pub course : Course rank f b run
  pub ledger : Ledger b.table.rows run.slips run.board.table.rows
  pub prices : (test : ℕ → Bool) → AllPrices test b → AllByRecursion (TradePasses test) run.slips
  -- the moves were enough: where no RFE is asked, none is left
  pub ends : run.asked ≡ None → next rank f run.board ≡ Stop
  -- each slip takes an order or the quote away
  pub few : length run.slips ≤ standing b.table.rows + quotes b.quote
  pub fit : length run.slips ≤ 129
  -- nothing new stands
  pub shrinks : Shrinks run.board.table.rows b.table.rows
  pub keeps_quote : KeepsQuote run.board.quote b.quote
  pub sound : Sound f run.board

abbrev pub EveryCross : Type 0
EveryCross = (rank : Rank) → RankLaw rank → (f : Frame) (b : Board) → Sound f b → CrossLaws rank f b (cross rank f b)

-- its course alone makes a run the cross: there is no other
abbrev pub OnlyCross : Type 0
OnlyCross = (rank : Rank) → RankLaw rank → (f : Frame) (b : Board) → Sound f b → (run : Run) → Course rank f b run → run ≡ cross rank f b
