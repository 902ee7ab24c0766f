-- An order that goes out, at the moment just before it, and why.
use Rattle.std.specs.Prelude.{◌≡◌, ℕ, ◌<◌, true, false, ◌&&◌, ◌≢◌, Some}
use Rattle.figures.specs.Limits.{is_within}
use Rattle.book.specs.Causes.{Cause, Cancelled, OutsideQuote, Expired, BeyondLimit}
use Rattle.book.specs.Sides.{opposite}
use Rattle.book.specs.Proposals.{Order, Quote, Proposal, proposal}
use Rattle.book.specs.Ranks.{Rank}
use Rattle.book.specs.Tables.{At}
use Rattle.book.specs.Moves.{Board, Frame, in_quote}
use Rattle.book.specs.Opens.{Step, ByTaker, ByPair, IsStep, Leads}
use Rattle.book.specs.Fair.{Keeps}
use Rattle.book.specs.Quiet.{Quiet}

-- the first of its side would have met the first of the other side at that one's price
pub record Meets (rank : Rank) (f : Frame) (b : Board) (o : Order) (other : Proposal) : Type 0 where
  pub running : b.halted ≡ false
  pub step : Step
  pub is_step : IsStep b step
  pub leads : Leads rank f b step o.side (proposal o)
  pub other_leads : Leads rank f b step (opposite o.side) other
  pub keeps : Keeps o.side other.price o.price

-- execute-and-cancel, its ticket the lowest of that kind, and the steps are over
pub record LeftOver (b : Board) (o : Order) : Type 0 where
  pub brief : o.brief ≡ true
  pub lowest : (i : ℕ) (p : Order) → At b.table.rows i p → p.brief ≡ true → p.ticket ≢ o.ticket → o.ticket < p.ticket
  pub over : b.halted ≡ false → Quiet b.table.rows b.quote

-- the later of two orders that meet, at a price outside the governing quote
pub record Outside (rank : Rank) (f : Frame) (b : Board) (o : Order) : Type 0 where
  pub other : Order
  pub meets : Meets rank f b o (proposal other)
  pub pair : meets.step ≡ ByPair
  pub later : other.ticket < o.ticket
  pub outside : in_quote f other.price ≡ false

-- who goes out of two that may not trade: the taker, of a pair the later
abbrev pub Loses : Step → Order → Proposal → Type 0
Loses (ByTaker q s) o other = o.side ≡ s
Loses ByPair o other = other.number < o.ticket

-- its trade would be within the governing quote and beyond Limit 2
pub record Beyond (rank : Rank) (f : Frame) (b : Board) (o : Order) : Type 0 where
  pub other : Proposal
  pub meets : Meets rank f b o other
  pub loses : Loses meets.step o other
  pub inside : in_quote f other.price ≡ true
  pub beyond : is_within other.price f.dynamic f.limit ≡ false
  -- a flagged quote would have been asked before
  pub unasked : (q : Quote) → b.quote ≡ Some q → other.number ≡ q.number → (q.flagged && f.entered) ≡ false

-- a cross cancels nothing by itself
abbrev pub Why : Rank → Frame → Board → Cause → Order → Type 0
Why rank f b Cancelled o = ⊥
Why rank f b OutsideQuote o = Outside rank f b o
Why rank f b Expired o = LeftOver b o
Why rank f b BeyondLimit o = Beyond rank f b o

-- the order of the ticket stands, all its pieces go out, and there is a reason
pub record GoesOut (rank : Rank) (f : Frame) (b : Board) (cause : Cause) (ticket pieces : ℕ) : Type 0 where
  pub place : ℕ
  pub order : Order
  pub stands : At b.table.rows place order
  pub named : order.ticket ≡ ticket
  pub all : order.pieces ≡ pieces
  pub why : Why rank f b cause order
