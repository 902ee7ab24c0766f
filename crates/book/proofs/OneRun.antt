-- The laws leave one run of a board.
use Rattle.std.proofs.Common.{◌≡◌, ℕ, zero, suc, ◌≤◌, List, [], ◌∷◌, Some, None, Option, sym, refl, ap, ◌∙◌, subst, arith}
use Rattle.book.specs.Ranks.{Rank, RankLaw}
use Rattle.book.specs.Moves.{Board, Frame, Move, Stop, Ask, Deal, Strike, Halt, next}
use Rattle.book.specs.Makes.{Slip, after, slip}
use Rattle.book.specs.Cross.{Run, ended, before, onwards, work}
use Rattle.book.specs.Moments.{past, past_all}
use Rattle.book.specs.FairSlips.{FairSlips}
use Rattle.book.specs.Sound.{Sound}
use Rattle.book.specs.Asked.{Asked}
use Rattle.book.specs.Course.{Course}
use Rattle.book.specs.CrossLaws.{OnlyCross}
use Rattle.book.proofs.NextMoves.{next_good}
use Rattle.book.proofs.RowChanges.{some_stand}
use Rattle.book.proofs.Parties.{many, sound_less}
use Rattle.book.proofs.Rulings.{Wrote, Asking, Nothing, what, writes_it, asks_it, rests_it}
use Rattle.book.proofs.Loops.{Goes, less, fewer, tells, one_quote}

wrote_goes : (m : Move) (s : Slip) → what m ≡ Wrote s → Goes m
wrote_goes Stop s e = let z : ◌≡◌ {A = ℕ} 0 1 = cc in omega arith
wrote_goes (Ask t) s e = let z : ◌≡◌ {A = ℕ} 0 1 = cc in omega arith
wrote_goes (Deal x y p n) s e = tt
wrote_goes (Strike c x) s e = tt
wrote_goes (Halt x) s e = tt

wrote_slip : (m : Move) (s : Slip) → what m ≡ Wrote s → slip m ≡ s ∷ []
wrote_slip Stop s e = let z : ◌≡◌ {A = ℕ} 0 1 = cc in absurd (omega arith)
wrote_slip (Ask t) s e = let z : ◌≡◌ {A = ℕ} 0 1 = cc in absurd (omega arith)
wrote_slip (Deal x y p n) s e = cc
wrote_slip (Strike c x) s e = cc
wrote_slip (Halt x) s e = cc

asking_asks : (m : Move) (t : ℕ) → what m ≡ Asking t → m ≡ Ask t
asking_asks Stop t e = let z : ◌≡◌ {A = ℕ} 0 1 = cc in absurd (omega arith)
asking_asks (Ask u) t e = cc
asking_asks (Deal x y p n) t e = let z : ◌≡◌ {A = ℕ} 0 1 = cc in absurd (omega arith)
asking_asks (Strike c x) t e = let z : ◌≡◌ {A = ℕ} 0 1 = cc in absurd (omega arith)
asking_asks (Halt x) t e = let z : ◌≡◌ {A = ℕ} 0 1 = cc in absurd (omega arith)

resting : (m : Move) → what m ≡ Nothing → m ≡ Stop
resting Stop e = refl
resting (Ask u) e = let z : ◌≡◌ {A = ℕ} 0 1 = cc in absurd (omega arith)
resting (Deal x y p n) e = let z : ◌≡◌ {A = ℕ} 0 1 = cc in absurd (omega arith)
resting (Strike c x) e = let z : ◌≡◌ {A = ℕ} 0 1 = cc in absurd (omega arith)
resting (Halt x) e = let z : ◌≡◌ {A = ℕ} 0 1 = cc in absurd (omega arith)

goes_before : (m : Move) (b : Board) (r : Run) → Goes m → onwards m b r ≡ before (slip m) r
goes_before Stop b r h = absurd h
goes_before (Ask t) b r h = absurd h
goes_before (Deal x y p n) b r h = refl
goes_before (Strike c x) b r h = refl
goes_before (Halt x) b r h = refl

abbrev run_of : Board → List Slip → Option ℕ → Run
run_of board slips asked = record { board = board; slips = slips; asked = asked }

module _ (rank : Rank) (L : RankLaw rank) (f : Frame) where
  stopped : (n : ℕ) (b : Board) → next rank f b ≡ Stop → ended b None ≡ work rank f n b
  unfolding work
  stopped zero b e = refl
  stopped (suc n) b e = sym (ap (λ m. onwards m b (work rank f n (after (next rank f b) b))) e)

  asked_last : (n : ℕ) (b : Board) (t : ℕ) → Sound f b → many b ≤ n → Asked rank f b t → ended b (Some t) ≡ work rank f n b
  unfolding work
  asked_last zero b t S le A = absurd (omega (arith, some_stand b.table.rows A.place A.order A.stands))
  asked_last (suc n) b t S le A =
      let e : next rank f b ≡ Ask t = asking_asks (next rank f b) t (asks_it rank L f b S (next rank f b) (next_good rank L f b S) t A) in
      sym (ap (λ m. onwards m b (work rank f n (after (next rank f b) b))) e)

  at_end : (n : ℕ) (b : Board) (asked : Option ℕ) → Sound f b → many b ≤ n → Course rank f b (ended b asked) →
      ended b asked ≡ work rank f n b
  at_end n b None S le C =
      stopped n b (resting (next rank f b) (rests_it rank L f b S (next rank f b) (next_good rank L f b S) (C.quiet refl) (C.spent refl)))
  at_end n b (Some t) S le C = asked_last n b t S le (C.asks t refl)

  only : (n : ℕ) (slips : List Slip) (b board : Board) (asked : Option ℕ) → Sound f b → many b ≤ n →
      Course rank f b (run_of board slips asked) →
      run_of board slips asked ≡ work rank f n b
  unfolding work
  only n [] b board asked S le C =
      ap (λ z. ended z asked) C.told ∙ at_end n b asked S le (subst (λ z. Course rank f b (ended z asked)) C.told C)
  only zero (s ∷ ss) b board asked S le C =
      let m = next rank f b in
      let g = next_good rank L f b S in
      let w = writes_it rank L f b S m g s C.fair.0 in
      absurd (omega (arith, fewer rank f b m g (wrote_goes m s w)))
  only (suc n) (s ∷ ss) b board asked S le C =
      let m = next rank f b in
      let g = next_good rank L f b S in
      let w = writes_it rank L f b S m g s C.fair.0 in
      let h = wrote_goes m s w in
      let e : slip m ≡ s ∷ [] = wrote_slip m s w in
      let t : past s b ≡ after m b = ap (λ z. past_all z b) (sym e) ∙ tells rank f b S m g in
      let rest : Course rank f (after m b) (run_of board ss asked) = record {
        told = C.told ∙ ap (past_all ss) t;
        fair = subst (λ z. FairSlips rank f z ss) t C.fair.1;
        asks = C.asks;
        quiet = C.quiet;
        spent = C.spent;
      } in
      let ih = only n ss (after m b) board asked (sound_less f (after m b) b (less rank f b m g) S) (omega (arith, fewer rank f b m g h)) rest in
      ap (before (s ∷ [])) ih ∙ ap (λ z. before z (work rank f n (after m b))) (sym e) ∙ sym (goes_before m b (work rank f n (after m b)) h)

pub only_cross : OnlyCross
only_cross rank L f b S run C =
    only rank L f 129 run.slips b run.board run.asked S (omega (arith, S.rows.few, one_quote b.quote)) C
