-- Only a quote that stands is asked about.
use Rattle.std.proofs.Common.{◌≡◌, ℕ, false, ◌&&◌, leb, Some, None, Option, refl}
use Rattle.std.proofs.lemmas.Bool.{cond_both}
use Rattle.book.specs.Sides.{Side, Buy, Sell}
use Rattle.book.specs.Proposals.{Quote, Proposal}
use Rattle.book.specs.Ranks.{Rank}
use Rattle.book.specs.Picks.{Any, Taking, Partner}
use Rattle.book.specs.Tables.{Rows}
use Rattle.book.specs.Firsts.{Found, first}
use Rattle.book.specs.Moves.{Board, Frame, Party, Move, Stop, Ask, Deal, Strike, Halt, choice, dealt, expiry, in_limit, in_quote, met, next, pairing, pairing_at, steps, sweep, taken, trading, with_order, with_quote}

-- what a move that asks says of the board
abbrev pub Stood : Board → Move → Type 0
Stood b Stop = Unit {0}
Stood b (Ask t) = (b.halted ≡ false) × (q : Quote) × (b.quote ≡ Some q)
Stood b (Deal x y p n) = Unit {0}
Stood b (Strike c x) = Unit {0}
Stood b (Halt x) = Unit {0}

module _ (rank : Rank) (f : Frame) (b : Board) where
  dealing : (s : Side) (x y : Party) (p n : ℕ) → Stood b (dealt s x y p n)
  dealing Buy x y p n = tt
  dealing Sell x y p n = tt

  trades : (s : Side) (t : Found) (x : Party) (p : Proposal) → Stood b (trading f s t x p)
  unfolding trading
  trades s t x p = cond_both (in_limit f p.price) _ _ (Stood b) (λ _. dealing s _ x p.price _) (λ _. tt)

  expires : (o : Option Found) → Stood b (expiry o)
  expires None = tt
  expires (Some x) = tt

  pairs : (x y : Found) (price : ℕ) → Stood b (pairing_at f x y price)
  pairs x y price = cond_both (in_quote f price) _ _ (Stood b) (λ _. cond_both (in_limit f price) _ _ (Stood b) (λ _. tt) (λ _. tt)) (λ _. tt)

  meets : (rows : Rows) (x y : Option Found) → Stood b (met rank f rows x y)
  meets rows None y = expires _
  meets rows (Some x) None = expires _
  meets rows (Some x) (Some y) = cond_both (leb y.order.price x.order.price) (pairing f x y) (sweep rank rows) (Stood b) (λ _. pairs x y _) (λ _. expires _)

  module _ (up : b.halted ≡ false) where
    quoted : (q : Quote) (s : Side) (t : Found) → b.quote ≡ Some q → Stood b (with_quote f q s t)
    quoted q s t e = cond_both (q.flagged && f.entered) _ _ (Stood b) (λ _. (up, q, e)) (λ _. trades s t _ _)

    chooses : (q : Quote) (s : Side) (t : Found) (p : Option Found) → b.quote ≡ Some q → Stood b (choice rank f q s t p)
    chooses q s t None e = quoted q s t e
    chooses q s t (Some p) e = cond_both _ (with_order f s t p) (with_quote f q s t) (Stood b) (λ _. trades s t _ _) (λ _. quoted q s t e)

    takes : (rows : Rows) (q : Quote) (x y : Option Found) → b.quote ≡ Some q → Stood b (taken rank f rows q x y)
    takes rows q (Some t) y e = chooses q Buy t (first rank (Partner Sell q f.opener) rows) e
    takes rows q None (Some t) e = chooses q Sell t (first rank (Partner Buy q f.opener) rows) e
    takes rows q None None e = meets rows (first rank (Any Buy) rows) (first rank (Any Sell) rows)

    stepping : (rows : Rows) (quote : Option Quote) → b.quote ≡ quote → Stood b (steps rank f rows quote)
    stepping rows None e = meets rows (first rank (Any Buy) rows) (first rank (Any Sell) rows)
    stepping rows (Some q) e = takes rows q (first rank (Taking Buy q) rows) (first rank (Taking Sell q) rows) e

  pub next_stood : Stood b (next rank f b)
  unfolding next
  next_stood = cond_both b.halted (sweep rank b.table.rows) (steps rank f b.table.rows b.quote) (Stood b) (λ _. expires _) (λ up. stepping up b.table.rows b.quote refl)
