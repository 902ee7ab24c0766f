-- Rankings: what one means, the law that it keeps, and the two that are delivered.
use Rattle.std.specs.Prelude.{◌≡◌, ℕ, Bool, true, cond, not, ◌≢◌, ◌==◌, nat_lt}
use Rattle.book.specs.Sides.{Side, Buy, Sell}
use Rattle.book.specs.Proposals.{Proposal}

-- by side: does the first proposal rank ahead of the second?
abbrev pub Rank : Type 0
Rank = Side → Proposal → Proposal → Bool

-- a buyer's better price is the higher one, a seller's the lower
abbrev pub better : Side → ℕ → ℕ → Bool
better Buy a b = nat_lt b a
better Sell a b = nat_lt a b

-- of two different numbers exactly one ranks ahead, ranking is transitive, a better price always ranks ahead
pub record RankLaw (rank : Rank) : Type 0 where
  pub one : (s : Side) (a b : Proposal) → a.number ≢ b.number → rank s a b ≡ not (rank s b a)
  pub chain : (s : Side) (a b c : Proposal) → rank s a b ≡ true → rank s b c ≡ true → rank s a c ≡ true
  pub better : (s : Side) (a b : Proposal) → better s a.price b.price ≡ true → rank s a b ≡ true

-- price, then lower number
abbrev pub by_time : Rank
by_time s a b = cond (a.price == b.price) (nat_lt a.number b.number) (better s a.price b.price)

-- price, then more pieces left, then lower number
abbrev pub by_size : Rank
by_size s a b =
    cond (a.price == b.price)
    (cond (a.pieces == b.pieces) (nat_lt a.number b.number) (nat_lt b.pieces a.pieces))
    (better s a.price b.price)
