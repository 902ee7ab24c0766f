-- What is open at a moment of a cross, read from all that stands.
use Rattle.std.specs.Prelude.{◌≡◌, ℕ, ◌≤◌, true, false, ◌≢◌, ◌⊎◌, Some}
use Rattle.book.specs.Sides.{Side, Buy, Sell}
use Rattle.book.specs.Proposals.{Order, Quote, Proposal, proposal, side_of}
use Rattle.book.specs.Ranks.{Rank}
use Rattle.book.specs.Picks.{reaches, settled}
use Rattle.book.specs.Tables.{At}
use Rattle.book.specs.Moves.{Board, Frame}

-- an order of a side stands and makes this proposal
pub record IsOrder (b : Board) (s : Side) (p : Proposal) : Type 0 where
  pub place : ℕ
  pub order : Order
  pub stands : At b.table.rows place order
  pub side : order.side ≡ s
  pub is : p ≡ proposal order

-- an order of a side reaches the quote
pub record Reached (b : Board) (q : Quote) (s : Side) : Type 0 where
  pub place : ℕ
  pub order : Order
  pub stands : At b.table.rows place order
  pub side : order.side ≡ s
  pub reaching : reaches q order s ≡ true

abbrev pub Unreached : Board → Quote → Side → Type 0
Unreached b q s = (i : ℕ) (o : Order) → At b.table.rows i o → o.side ≡ s → reaches q o s ≡ false

-- a step goes by a taker of the quote, or by a pair of orders
pub data Step : Type 0 where
  ByTaker : Quote → Side → Step
  ByPair : Step

-- a taker of either side, a sell only where no buy reaches the quote; a pair where nobody does, or no quote stands
abbrev pub IsStep : Board → Step → Type 0
IsStep b (ByTaker q s) = (b.quote ≡ Some q) × Reached b q s × (s ≡ Sell → Unreached b q Buy)
IsStep b ByPair = (q : Quote) → b.quote ≡ Some q → (s : Side) → Unreached b q s

-- a taker's partners: the quote's opposite side, and the settled orders from bid to ask
pub record SettledWithin (f : Frame) (b : Board) (q : Quote) (s : Side) (p : Proposal) : Type 0 where
  pub found : IsOrder b s p
  pub is_settled : settled f.opener found.order ≡ true
  pub from_bid : q.bid ≤ p.price
  pub to_ask : p.price ≤ q.ask

abbrev pub IsPartner : Frame → Board → Quote → Side → Proposal → Type 0
IsPartner f b q s p = (p ≡ side_of q s) ⊎ SettledWithin f b q s p

-- what is open on a side: every order of the taker's side and its partners; in a pair's step every order
abbrev pub Open : Frame → Board → Step → Side → Proposal → Type 0
Open f b ByPair s p = IsOrder b s p
Open f b (ByTaker q Buy) Buy p = IsOrder b Buy p
Open f b (ByTaker q Buy) Sell p = IsPartner f b q Sell p
Open f b (ByTaker q Sell) Buy p = IsPartner f b q Buy p
Open f b (ByTaker q Sell) Sell p = IsOrder b Sell p

-- a proposal is open, and every other one that is open on its side ranks behind it
pub record Leads (rank : Rank) (f : Frame) (b : Board) (step : Step) (s : Side) (p : Proposal) : Type 0 where
  pub is_open : Open f b step s p
  pub ahead : (other : Proposal) → Open f b step s other → other.number ≢ p.number → rank s p other ≡ true
