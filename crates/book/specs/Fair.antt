-- A trade as it has to be, at the moment just before it.
use Rattle.std.specs.Prelude.{◌≡◌, ℕ, ◌≤◌, min, true, false, cond, ◌&&◌, ◌⊎◌, Some, nat_lt}
use Rattle.figures.specs.Limits.{is_within}
use Rattle.book.specs.Sides.{Side, Buy, Sell}
use Rattle.book.specs.Proposals.{Quote, Proposal, side_of}
use Rattle.book.specs.Ranks.{Rank}
use Rattle.book.specs.Moves.{Board, Frame}
use Rattle.book.specs.Opens.{IsOrder, Step, ByTaker, ByPair, IsStep, Leads}

-- who stands under the number of a slip: the order of that ticket, or under 0 the quote
abbrev pub IsParty : Board → Side → ℕ → Proposal → Type 0
IsParty b s n p =
    ((n ≡ 0) × ((q : Quote) × (b.quote ≡ Some q) × (p ≡ side_of q s)))
    ⊎ ((found : IsOrder b s p) × (found.order.ticket ≡ n))

-- a buyer pays at most its price, a seller gets at least its price
abbrev pub Keeps : Side → ℕ → ℕ → Type 0
Keeps Buy paid price = paid ≤ price
Keeps Sell paid price = price ≤ paid

-- one party of a trade at a price
pub record Served (rank : Rank) (f : Frame) (b : Board) (step : Step) (price : ℕ) (s : Side) (n : ℕ) : Type 0 where
  pub party : Proposal
  pub stands : IsParty b s n party
  pub keeps : Keeps s price party.price
  -- the quote trades at its own bid or ask, and is not to be asked first
  pub exact : n ≡ 0 → price ≡ party.price
  pub unasked : n ≡ 0 → (q : Quote) → b.quote ≡ Some q → (q.flagged && f.entered) ≡ false
  pub leads : Leads rank f b step s party

-- the price is the partner's; in a pair that of the lower ticket
abbrev pub price_by : Step → Proposal → Proposal → ℕ
price_by (ByTaker q Buy) buying selling = selling.price
price_by (ByTaker q Sell) buying selling = buying.price
price_by ByPair buying selling = cond (nat_lt buying.number selling.number) buying.price selling.price

-- a trade of two parties, each the first that is open on its side
pub record Fair (rank : Rank) (f : Frame) (b : Board) (price pieces buyer seller : ℕ) : Type 0 where
  pub running : b.halted ≡ false
  pub step : Step
  pub is_step : IsStep b step
  pub buys : Served rank f b step price Buy buyer
  pub sells : Served rank f b step price Sell seller
  pub priced : price ≡ price_by step buys.party sells.party
  pub from_bid : f.bid ≤ price
  pub to_ask : price ≤ f.ask
  pub in_limit : is_within price f.dynamic f.limit ≡ true
  -- the smaller number of pieces trades, and it is not nothing
  pub smaller : pieces ≡ min buys.party.pieces sells.party.pieces
  pub some : 1 ≤ pieces
