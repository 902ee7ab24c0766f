-- What is known of the next move of a cross.
use Rattle.std.proofs.Common.{◌≡◌, false, Some, None, Option, sym, refl, ◌∙◌}
use Rattle.std.proofs.lemmas.Bool.{cond_both}
use Rattle.book.specs.Sides.{Buy, Sell}
use Rattle.book.specs.Proposals.{Quote}
use Rattle.book.specs.Ranks.{Rank, RankLaw}
use Rattle.book.specs.Picks.{Taking}
use Rattle.book.specs.Tables.{Rows}
use Rattle.book.specs.Moves.{Board, Frame, steps, next}
use Rattle.book.specs.Sound.{Sound}
use Rattle.book.proofs.Bests.{first_is, none_some, true_false}
use Rattle.book.proofs.GoodMoves.{Good}
use Rattle.book.proofs.Tails.{sweeping}
use Rattle.book.proofs.Pairs.{paired}
use Rattle.book.proofs.Takers.{turns}

module _ (rank : Rank) (L : RankLaw rank) (f : Frame) (b : Board) (S : Sound f b) where
  abbrev rows : Rows
  rows = b.table.rows

  going : b.halted ≡ false → (quote : Option Quote) → b.quote ≡ quote → Good rank f b (steps rank f rows quote)
  going up None e = paired rank L f b S up (λ q k. none_some q (sym e ∙ k))
  going up (Some q) e =
      turns rank L f b S up q e _ _ (first_is rank L (Taking Buy q) rows S.rows.distinct) (first_is rank L (Taking Sell q) rows S.rows.distinct)

  pub next_good : Good rank f b (next rank f b)
  unfolding next
  next_good = cond_both b.halted _ _ (Good rank f b) (λ e. sweeping rank L f b S (λ z. true_false _ e z)) (λ e. going e b.quote refl)
