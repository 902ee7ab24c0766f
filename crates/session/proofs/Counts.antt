-- How many slips a cross writes.
use Rattle.std.proofs.Common.{ℕ, zero, suc, ◌≤◌, Bool, false, length, Option, arith}
use Rattle.book.specs.Boards.{Board}
use Rattle.book.specs.Cross.{Run, onwards, work}
use Rattle.book.specs.Makes.{after, board_of}
use Rattle.book.specs.Moves.{next}
use Rattle.book.specs.declared.moves.Move.{Move}
use Rattle.book.specs.declared.moves.Move.TheVariants.{Stop, Ask, Deal, Strike, Halt}
use Rattle.book.specs.Ranks.{Rank}
use Rattle.book.specs.declared.frame.Frame.{Frame}
use Rattle.book.specs.declared.quote.Quote.{Quote}
use Rattle.session.specs.Days.{Day, State}
use Rattle.session.specs.Runs.{crossing, frame_of}

one_more : (m : Move) (b : Board) (r : Run) (n : ℕ) → length r.slips ≤ n → length (onwards m b r).slips ≤ suc n
one_more Stop b r n h = omega arith
one_more (Ask t) b r n h = omega arith
one_more (Deal x y p q) b r n h = omega (arith, h)
one_more (Strike c f) b r n h = omega (arith, h)
one_more (Halt f) b r n h = omega (arith, h)

-- each move writes one slip at most
worked_few : (rank : Rank) (f : Frame) (fuel : ℕ) (b : Board) → length (work rank f fuel b).slips ≤ fuel
unfolding work
worked_few rank f zero b = omega arith
worked_few rank f (suc fuel) b = one_more (next rank f b) b (work rank f fuel (after (next rank f b) b)) fuel (worked_few rank f fuel (after (next rank f b) b))

pub crossing_few : (d : Day) (s : State) (q : Quote) (stands : Option Quote) (entered : Bool) → length (crossing d s q stands entered).slips ≤ 129
unfolding crossing
crossing_few d s q stands entered = worked_few d.rank (frame_of d s q entered) 129 (board_of s.table.rows stands false)
