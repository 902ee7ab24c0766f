-- The moment at which a cross ends and an RFE opens.
use Rattle.std.specs.Prelude.{◌≡◌, ℕ, true, false}
use Rattle.book.specs.Sides.{Side, opposite}
use Rattle.book.specs.Proposals.{Order, Quote, proposal, side_of}
use Rattle.book.specs.Ranks.{Rank}
use Rattle.book.specs.Picks.{reaches}
use Rattle.book.specs.Tables.{At}
use Rattle.book.specs.Moves.{Board, Frame}
use Rattle.book.specs.Opens.{ByTaker, IsStep, Leads}

-- the order of the ticket is the first taker, its first partner is the flagged quote, and the cross came from enter
pub record Asked (rank : Rank) (f : Frame) (b : Board) (ticket : ℕ) : Type 0 where
  pub running : b.halted ≡ false
  pub entered : f.entered ≡ true
  pub quote : Quote
  pub flagged : quote.flagged ≡ true
  pub side : Side
  pub is_step : IsStep b (ByTaker quote side)
  pub place : ℕ
  pub order : Order
  pub stands : At b.table.rows place order
  pub named : order.ticket ≡ ticket
  pub on_side : order.side ≡ side
  pub reaching : reaches quote order side ≡ true
  pub leads : Leads rank f b (ByTaker quote side) side (proposal order)
  pub quote_leads : Leads rank f b (ByTaker quote side) (opposite side) (side_of quote (opposite side))
