-- Which orders a search looks at, and which of two it takes.
use Rattle.std.specs.Prelude.{ℕ, Bool, true, ◌&&◌, Some, None, Option, ◌==◌, nat_le, nat_lt}
use Rattle.book.specs.Sides.{Side, Buy, Sell, same_side}
use Rattle.book.specs.Proposals.{Order, Quote, proposal}
use Rattle.book.specs.Ranks.{Rank}

pub data Pick : Type 0 where
  -- orders of the side
  Any : Side → Pick
  -- orders of the side that reach the quote
  Taking : Side → Quote → Pick
  -- orders of the side priced from bid to ask, and settled
  Partner : Side → Quote → Option ℕ → Pick
  -- orders of either side that reach the quote
  Reaching : Quote → Pick
  -- execute-and-cancel orders
  Brief : Pick
  -- the sender's order of that ticket
  Owned : ℕ → ℕ → Pick

-- a buy reaches the quote at or above the ask, a sell at or below the bid
abbrev pub reaches : Quote → Order → Side → Bool
reaches q o Buy = nat_le q.ask o.price
reaches q o Sell = nat_le o.price q.bid

-- from the ticket on that opened the RFE, orders wait
abbrev pub settled : Option ℕ → Order → Bool
settled None o = true
settled (Some t) o = nat_lt o.ticket t

abbrev pub taking : Quote → Side → Order → Bool
taking q s o = same_side o.side s && reaches q o s

abbrev pub partnering : Option ℕ → Quote → Side → Order → Bool
partnering opener q s o = same_side o.side s && (settled opener o && (nat_le q.bid o.price && nat_le o.price q.ask))

abbrev pub owned : ℕ → ℕ → Order → Bool
owned sender ticket o = o.ticket == ticket && o.sender == sender

abbrev pub picked : Pick → Order → Bool
picked (Any s) o = same_side o.side s
picked (Taking s q) o = taking q s o
picked (Partner s q opener) o = partnering opener q s o
picked (Reaching q) o = reaches q o o.side
picked Brief o = o.brief
picked (Owned sender ticket) o = owned sender ticket o

-- two orders of one side under a ranking
abbrev pub ranked : Rank → Side → Order → Order → Bool
ranked rank s a b = rank s (proposal a) (proposal b)

abbrev pub earlier : Order → Order → Bool
earlier a b = nat_lt a.ticket b.ticket

-- orders of one side go by rank, others by ticket
abbrev pub beats : Rank → Pick → Order → Order → Bool
beats rank (Any s) a b = ranked rank s a b
beats rank (Taking s q) a b = ranked rank s a b
beats rank (Partner s q opener) a b = ranked rank s a b
beats rank (Reaching q) a b = earlier a b
beats rank Brief a b = earlier a b
beats rank (Owned sender ticket) a b = earlier a b
