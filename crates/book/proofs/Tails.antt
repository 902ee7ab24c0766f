-- The tail of a cross: execute-and-cancel orders, lowest ticket first.
use Rattle.std.proofs.Common.{◌≡◌, false, Some, None, Option, refl}
use Rattle.std.proofs.lemmas.Bool.{ltb-true}
use Rattle.book.specs.Ranks.{Rank, RankLaw}
use Rattle.book.specs.Picks.{Brief}
use Rattle.book.specs.Tables.{Rows}
use Rattle.book.specs.Firsts.{Found, first}
use Rattle.book.specs.Moves.{Board, Frame, expiry, sweep}
use Rattle.book.specs.Quiet.{Quiet}
use Rattle.book.specs.Sound.{Sound}
use Rattle.book.proofs.Bests.{IsFirst, first_is}
use Rattle.book.proofs.GoodMoves.{Good}

module _ (rank : Rank) (L : RankLaw rank) (f : Frame) (b : Board) (S : Sound f b) where
  abbrev rows : Rows
  rows = b.table.rows

  swept : (r : Option Found) → IsFirst rank Brief rows r → (b.halted ≡ false → Quiet rows b.quote) → Good rank f b (expiry r)
  swept None h k = (k, h)
  swept (Some x) h k = (refl, h.here, record { brief = h.passes; lowest = λ i p a y n. ltb-true _ _ (h.first i p a y n); over = k })

  pub sweeping : (b.halted ≡ false → Quiet rows b.quote) → Good rank f b (sweep rank rows)
  sweeping k = swept (first rank Brief rows) (first_is rank L Brief rows S.rows.distinct) k
