-- One turn of the loop that works a cross.
use Rattle.std.specs.Prelude.{◌≡◌, ℕ, List, Some, None, Option}
use Rattle.std.proofs.lemmas.List.Edits.{sets}
use Rattle.book.specs.Ranks.{Rank}
use Rattle.book.specs.Moves.{Frame, Move, Stop, Ask, Deal, Strike, Halt, next}
use Rattle.book.specs.Makes.{Slip, after, slip}
use Rattle.book.specs.Cross.{Crossed}
use Rattle.book.specs.Makers.{Maker, Gone, Stands, Halted, board_with}
use Rattle.book.specs.Outcomes.{Outcome, Dark, Lit, Asked}
use Rattle.book.specs.Tables.{Rows}
use Rattle.book.specs.declared.crossed.Outcome.TheVariants as left

-- what a cross answers that ends here, after `n` slips
abbrev pub outcome : Maker → Option ℕ → Outcome
outcome (Stands q) (Some t) = Asked q t
outcome (Stands q) None = Lit q
outcome Gone asked = Dark
outcome Halted asked = left.Halted

abbrev pub end_with : ℕ → Option ℕ → Maker → Crossed
end_with n asked m = record { count = n; outcome = outcome m asked }

-- a cross ends where nothing is left to do, or where the quote has to be asked
abbrev pub end_of : Move → ℕ → Maker → Option Crossed
end_of Stop n m = Some (end_with n None m)
end_of (Ask t) n m = Some (end_with n (Some t) m)
end_of (Deal x y p q) n m = None
end_of (Strike c f) n m = None
end_of (Halt f) n m = None

-- the next move was made and its slip written at place `n`
pub record Turned (rank : Rank) (f : Frame) (n : ℕ) (rows rows' : Rows) (m m' : Maker) (old new : List Slip) (end : Option Crossed) : Type 0 where
  pub board : board_with rows' m' ≡ after (next rank f (board_with rows m)) (board_with rows m)
  pub slips : new ≡ sets old n (slip (next rank f (board_with rows m)))
  pub answer : end ≡ end_of (next rank f (board_with rows m)) n m
