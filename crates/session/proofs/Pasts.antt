-- What the past of a book tells of it, and how a call makes it longer.
use Rattle.std.proofs.Common.{◌≡◌, ℕ, true, List, [], length, sym, refl, subst, arith}
use mathlib.Core.Logic.{∥∥₁_elim, ∥∥₁_map}
use native.Mathlib.Bridge.{le_prop}
use Rattle.figures.specs.Sheets.{Lawful, Measures}
use Rattle.book.specs.Ranks.{Rank, RankLaw}
use Rattle.book.specs.declared.slip.Slip.{Slip}
use Rattle.session.specs.Bounds.{Bounded, FewCancelled}
use Rattle.session.specs.Calls.{done}
use Rattle.session.specs.Days.{Day, State, fresh}
use Rattle.session.specs.Histories.{LawfulDay, Past, begun, more}
use Rattle.session.specs.Promises.{Promised}
use Rattle.session.specs.Stories.{Call, yields}
use Rattle.session.specs.Stories as call
use Rattle.session.specs.StoryLaws.{Sums}
use Rattle.session.specs.Terms.{day_of}
use Rattle.session.specs.declared.terms.Terms.{Terms}
use Rattle.session.proofs.CallSteps.{steps}
use Rattle.session.proofs.StoriesKeep.{Kept, any_price, every_history, every_story, history_keeps}

-- the day of a book is lawful, its sheet and its ranking being so
pub lawful_day : {S R : Type 0} (means : S → ℕ → Measures) (ranks : R → Rank) → ((s : S) → Lawful (means s)) → ((r : R) → RankLaw (ranks r)) →
    (t : Terms S R) → LawfulDay t.particulars.reference t.particulars.reply (day_of means ranks t)
lawful_day means ranks sheets rankings t = record { sheet = sheets t.sheet; ranking = rankings t.ranking; same = refl; replies = refl }

module _ {reference reply : ℕ} (s : State) where
  kept : (p : Past reference reply s) → Kept any_price reference reply p.events s
  kept p = (history_keeps reference reply p.history).0

  sums : (p : Past reference reply s) → Sums p.events s
  sums p = (kept p).common.sums

  -- ---- its totals are bounded
  pub bounded_by : ∥ Past reference reply s ∥₁ → Bounded s
  bounded_by h =
      record {
        count = ∥∥₁_elim h le_prop (λ p. (sums p).numbers);
        accepted = ∥∥₁_elim h le_prop (λ p. (sums p).most);
        done = ∥∥₁_elim h le_prop (λ p. omega (arith, (sums p).balance));
        out = ∥∥₁_elim h le_prop (λ p. omega (arith, (sums p).balance));
      }

  -- ---- a cancel fits into 129 places
  fits : (d : Day) → RankLaw d.rank → Past reference reply s → FewCancelled d s
  unfolding any_price yields done
  fits d L p sender ticket f e =
      let S = steps d any_price (λ p h. refl) L s (kept p).good true 129 0 (call.Cancel sender ticket) in
      rw e at S.few

  pub cancel_fits_by : (d : Day) → RankLaw d.rank → ∥ Past reference reply s ∥₁ → FewCancelled d s
  cancel_fits_by d L h sender ticket f e = ∥∥₁_elim h le_prop (λ p. fits d L p sender ticket f e)

  -- ---- one call more
  pub called : (d : Day) → LawfulDay reference reply d → (c : Call) (paper : List Slip) (held : ℕ) (new : State) →
      new ≡ (yields d s (length paper) held c).state → ∥ Past reference reply s ∥₁ → ∥ Past reference reply new ∥₁
  called d l c paper held new e h =
      ∥∥₁_map h (λ p. subst (Past reference reply) (sym e) (record { events = _; history = more p.history d l c paper held }))

-- the same for a call under the book's own sheet and ranking
pub longer : {S R : Type 0} (means : S → ℕ → Measures) (ranks : R → Rank) → ((s : S) → Lawful (means s)) → ((r : R) → RankLaw (ranks r)) →
    (t : Terms S R) (s : State) (c : Call) (paper : List Slip) (held : ℕ) (new : State) →
    new ≡ (yields (day_of means ranks t) s (length paper) held c).state → ∥ Past t.particulars.reference t.particulars.reply s ∥₁ → ∥ Past t.particulars.reference t.particulars.reply new ∥₁
longer means ranks sheets rankings t s c paper held new e h =
    called s (day_of means ranks t) (lawful_day means ranks sheets rankings t) c paper held new e h

pub opened : (reference reply : ℕ) (new : State) → new ≡ fresh reference → ∥ Past reference reply new ∥₁
opened reference reply new e = ∣ subst (Past reference reply) (sym e) (record { events = []; history = begun }) ∣₁

-- whatever led to a book, it keeps the laws
pub promised : (d : Day) → RankLaw d.rank → (s : State) → ∥ Past d.reference d.reply s ∥₁ → Promised d s
promised d L s h =
    record { stories = λ es. every_story d L es s; past = h; histories = λ es. every_history d.reference d.reply es s }

-- the same under the book's own sheet and ranking
pub promised_of : {S R : Type 0} (means : S → ℕ → Measures) (ranks : R → Rank) → ((r : R) → RankLaw (ranks r)) →
    (t : Terms S R) (s : State) → ∥ Past t.particulars.reference t.particulars.reply s ∥₁ → Promised (day_of means ranks t) s
promised_of means ranks rankings t s h = promised (day_of means ranks t) (rankings t.ranking) s h
