-- The cross: one move after another.
use Rattle.std.specs.Prelude.{◌≡◌, ℕ, zero, suc, List, [], ◌++◌, length, Some, None, Option}
use Rattle.std.proofs.lemmas.List.Edits.{sets}
use Rattle.book.specs.Ranks.{Rank}
use Rattle.book.specs.Moves.{Board, Frame, Move, Stop, Ask, Deal, Strike, Halt, next}
use Rattle.book.specs.Makes.{Slip, after, slip}
use Rattle.book.specs.Outcomes.{asked_for, is_halted, quote_left}
use Rattle.book.specs.Tables.{Rows}
pub use Rattle.book.specs.declared.crossed.Crossed.{Crossed}

-- what a cross leaves, its slips in order of arising, and the ticket that it opened an RFE for
pub record Run : Type 0 where
  pub board : Board
  pub slips : List Slip
  pub asked : Option ℕ

abbrev pub ended : Board → Option ℕ → Run
ended b asked = record { board = b; slips = []; asked = asked }

abbrev pub before : List Slip → Run → Run
before slips r = record { board = r.board; slips = slips ++ r.slips; asked = r.asked }

-- a move that is no end of the cross is followed by the rest
abbrev pub onwards : Move → Board → Run → Run
onwards Stop b r = ended b None
onwards (Ask t) b r = ended b (Some t)
onwards (Deal x y p n) b r = before (slip (Deal x y p n)) r
onwards (Strike c f) b r = before (slip (Strike c f)) r
onwards (Halt f) b r = before (slip (Halt f)) r

-- at most `fuel` moves
unfoldable pub work : Rank → Frame → ℕ → Board → Run
work rank f zero b = ended b None
work rank f (suc fuel) b = let m = next rank f b in let r = work rank f fuel (after m b) in onwards m b r

-- each move but the last takes an order or the quote away: with 128 orders and a quote, 129 are enough
abbrev pub cross : Rank → Frame → Board → Run
cross rank f b = work rank f 129 b

-- the answer counts the slips, and its outcome says what is asked, which quote stands and whether the book is halted
pub record Tells (a : Crossed) (r : Run) : Type 0 where
  pub count : a.count ≡ length r.slips
  pub asked : asked_for a.outcome ≡ r.asked
  pub quote : quote_left a.outcome ≡ r.board.quote
  pub halted : is_halted a.outcome ≡ r.board.halted

-- slips fill the list from its start, later places keep their content; what has no place is not written
abbrev pub written : List Slip → List Slip → List Slip
written slips paper = sets paper 0 slips

-- a call that made the run `r` left these rows, made the list `new` of the list `old`, and answers `a`
pub record Did (r : Run) (stands : Rows) (old new : List Slip) (a : Crossed) : Type 0 where
  pub rows : stands ≡ r.board.table.rows
  pub slips : new ≡ written r.slips old
  pub answer : Tells a r
