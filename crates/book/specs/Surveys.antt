-- The searches that a move is decided by, told together.
use Rattle.std.specs.Prelude.{◌≡◌, ℕ, Option}
use Rattle.book.specs.Firsts.{Found, first, looked}
use Rattle.book.specs.Picks.{Pick, Any, Taking, Brief, beats, picked}
use Rattle.book.specs.Proposals.{Order, Quote}
use Rattle.book.specs.Ranks.{Rank}
use Rattle.book.specs.Sides.{Buy, Sell}
use Rattle.book.specs.Tables.{Rows}
pub use Rattle.book.specs.declared.survey.Survey.{Survey}

-- one search after one more row
abbrev pub Looks : Rank → Pick → ℕ → Option Order → Option Found → Option Found → Type 0
Looks rank pick place row old new = new ≡ looked (beats rank pick) (picked pick) old place row

pub record Read (rank : Rank) (q : Quote) (place : ℕ) (row : Option Order) (old new : Survey) : Type 0 where
  pub buy : Looks rank (Any Buy) place row old.buy new.buy
  pub sell : Looks rank (Any Sell) place row old.sell new.sell
  pub taking_buy : Looks rank (Taking Buy q) place row old.taking_buy new.taking_buy
  pub taking_sell : Looks rank (Taking Sell q) place row old.taking_sell new.taking_sell
  pub brief : Looks rank Brief place row old.brief new.brief

pub record Surveyed (rank : Rank) (q : Quote) (rows : Rows) (s : Survey) : Type 0 where
  pub buy : s.buy ≡ first rank (Any Buy) rows
  pub sell : s.sell ≡ first rank (Any Sell) rows
  pub taking_buy : s.taking_buy ≡ first rank (Taking Buy q) rows
  pub taking_sell : s.taking_sell ≡ first rank (Taking Sell q) rows
  pub brief : s.brief ≡ first rank Brief rows
