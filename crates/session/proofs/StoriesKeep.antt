-- Every story keeps the laws.
use Rattle.std.proofs.Common.{◌≡◌, ℕ, zero, suc, ◌<◌, ◌≤◌, Bool, true, List, [], ◌∷◌, ◌++◌, length, get_or, take, drop, replicate, None, sum_by, Option, sym, refl, ap, ◌∙◌, subst, inl, inr, ⊎_elim, arith}
use lib.Seq.{length-sets, sets-eq}
use Rattle.std.specs.List.{AllByRecursion}
use Rattle.std.proofs.ByRecursion.{All-weaker}
use Rattle.std.proofs.lemmas.List.{drop_at, take_at}
use Rattle.std.proofs.lemmas.List.Sums.{sum_by-cons}
use Rattle.std.proofs.lemmas.Bool.{cases_eq}
use Rattle.book.specs.Cross.{written}
use Rattle.book.specs.Ledger.{out_by, traded_by}
use Rattle.book.specs.Lowered.{Lowered}
use Rattle.book.specs.Prices.{TradePasses}
use Rattle.book.specs.Ranks.{RankLaw}
use Rattle.book.specs.Tables.{At}
use Rattle.book.specs.declared.order.Order.{Order}
use Rattle.book.specs.declared.slip.Slip.{Slip}
use Rattle.book.proofs.Bests.{none_some, true_false}
use Rattle.session.specs.Calls.{done_on, out_on}
use Rattle.session.specs.Days.{Day, State, fresh}
use Rattle.session.specs.Histories.{History, LawfulDay, begun, more}
use Rattle.session.specs.Phases.{Dark, is_asked, is_halted}
use Rattle.session.specs.Stories.{Call, Event, Reply, Refused, Answered, Handed, Story, Yield, event_of, further, opened, yields}
use Rattle.session.specs.StoryCounts.{EnteredIn, WasEntered, accepted_as, accepted_in, by_numbered, counts, number_by, slips_of}
use Rattle.session.specs.StoryFair.{FairEvent, FairReply, PricedEvent, in_limit1}
use Rattle.session.specs.StoryLaws.{Common, EveryHistory, EveryStory, Replies, Spares}
use Rattle.session.specs.StoryPhases.{HaltsBy, LeavesReply, PhasedEvent, ToldBy}
use Rattle.session.specs.StoryRfes.{RfeBy}
use Rattle.session.specs.StoryStretch.{stretch}
use Rattle.session.proofs.CallSteps.{steps}
use Rattle.session.proofs.Goods.{Good}
use Rattle.session.proofs.Summonses.{SummonsKept, summons_more}
use Rattle.session.proofs.Steps.{Spared, Step, Stood, entered_lowered}

-- ---- the book at its opening
blank : (n i : ℕ) → get_or {A = Option Order} (replicate n None) i None ≡ None
blank zero i = refl
blank (suc n) zero = refl
blank (suc n) (suc i) = blank n i

bare : {B : Type 0} (i : ℕ) (o : Order) → At (replicate 128 None) i o → B
bare i o a = none_some o (sym (blank 128 i) ∙ a)

begins : (test : ℕ → Bool) → Good test (replicate 128 None) Dark 0
begins test =
    record {
      table = record {
        size = refl;
        sound = record {
          distinct = λ i j o p a b e. bare i o a;
          named = λ i o a. bare i o a;
          some = λ i o a. bare i o a;
          few = omega arith;
        };
        low = λ i o a. bare i o a;
        within = λ i o a. bare i o a;
      };
      quote = λ q e. none_some q e;
      brief = λ e i o a. bare i o a;
    }

-- ---- one event more
filled : (slips paper : List Slip) → length slips ≤ length paper → written slips paper ≡ slips ++ drop (length slips) paper
filled slips paper h =
    sets-eq slips paper 0 (omega (arith, h)) ∙ ap (λ n. slips ++ drop n paper) (omega arith)

abbrev Below : List Event → ℕ → Type 0
Below es n = AllByRecursion (λ x. number_by x.call x.reply ≤ n) es

entered_still : (o was : Order) (es : List Event) → Lowered o was → EnteredIn was es → EnteredIn o es
entered_still o was [] l h = h
entered_still o was (e ∷ es) l h =
    ⊎_elim (λ w. inl (entered_lowered o was e.call e.reply l w)) (λ w. inr (entered_still o was es l w)) h

spared : (c : Call) (s : State) (paper : List Slip) (held : ℕ) (y : Yield) → Spared y.reply y.slips → Spares y.reply
    (event_of c s paper held y)
spared c s paper held y h = go y.reply h
  where
    go : (r : Reply) → Spared r y.slips → Spares r (event_of c s paper held y)
    go (Refused f) k = ap (λ z. written z paper) k
    go (Answered a) k = tt
    go (Handed n) k = tt

-- what is carried from event to event
pub record Kept (test : ℕ → Bool) (reference reply : ℕ) (es : List Event) (s : State) : Type 0 where
  pub good : Good test s.table.rows s.phase s.count
  pub common : Common reference reply es s
  pub below : Below es s.count
  pub summons : SummonsKept es s

-- what an event keeps by its own day
pub record Own (d : Day) (test : ℕ → Bool) (e : Event) : Type 0 where
  pub fair : FairEvent d e
  pub prices : AllByRecursion (TradePasses test) (slips_of e)
  pub phases : PhasedEvent d e

module _ (d : Day) (test : ℕ → Bool) (reference : ℕ) (es : List Event) (s : State) (K : Kept test reference d.reply es s)
    (c : Call) (paper : List Slip) (held : ℕ) (y : Yield) (S : Step d test s c (stretch es) (length paper) held y) where
  abbrev e : Event
  e = event_of c s paper held y

  is : written y.slips paper ≡ y.slips ++ drop (length y.slips) paper
  is = filled y.slips paper S.room

  read : slips_of e ≡ y.slips
  read =
      ap (λ z. take (counts y.reply) z) is
      ∙ take_at y.slips (drop (length y.slips) paper) (counts y.reply) (sym S.told)

  own : Own d test e
  own =
      record {
        fair = subst (λ z. FairReply d s c y.reply z) (sym read) S.fair;
        prices = subst (λ z. AllByRecursion (TradePasses test) z) (sym read) S.prices;
        phases = record {
          asks = S.asks;
          quotes = S.quotes;
          told = subst (λ z. ToldBy c y.reply s y.state z) (sym read)
              S.quote_told;
          halts = subst (λ z. HaltsBy s y.state z) (sym read) S.halts;
        };
      }

  one_more : Kept test reference d.reply (e ∷ es) y.state
  one_more =
      let W = K.common in
      let m = W.sums in
      let h = summons_more d test es s K.summons W.quiet c paper (length paper) held y S in
      record {
        good = S.good;
        common = record {
          chain = (refl, W.chain);
          rising = (
            (λ z. All-weaker _ (λ (x : Event). number_by x.call x.reply < number_by c y.reply)
                (λ x h. omega (arith, h, (S.names z).0)) es K.below),
            W.rising,
          );
          ledger = λ t z.
              omega (
                arith,
                S.ledger t z,
                W.ledger t z,
                sum_by-cons (λ (x : Event). accepted_as t x.call x.reply) e es,
                sum_by-cons (λ (x : Event). sum_by (traded_by t) (slips_of x)) e es,
                sum_by-cons (λ (x : Event). sum_by (out_by t) (slips_of x)) e es,
                ap (λ z. sum_by (traded_by t) z) read,
                ap (λ z. sum_by (out_by t) z) read,
              );
          entered = λ i o a.
              ⊎_elim (λ (h : WasEntered o c y.reply). inl h)
              (λ (h : Stood s.table.rows i o). inr (entered_still o h.0 es h.2 (W.entered i h.0 h.1))) (S.enters i o a);
          leaves = (subst (λ z. LeavesReply c y.reply s.table.rows z y.state.table.rows) (sym read) S.leaves, W.leaves);
          quiet = S.quiet W.quiet;
          brief = S.good.brief;
          replies = (subst (λ n. Replies c y.reply s y.state n) m.count S.replies, W.replies);
          writes = (
            record {
              few = omega (arith, S.told, S.few);
              room = omega (arith, S.told, S.room);
              long = length-sets paper 0 y.slips;
              rest = ap (λ z. drop (counts y.reply) z) is
                  ∙ drop_at y.slips (drop (length y.slips) paper) (counts y.reply) (sym S.told)
                  ∙ ap (λ n. drop n paper) (sym S.told);
            },
            W.writes,
          );
          spares = (spared c s paper held y S.spares, W.spares);
          summonses = (h.0, W.summonses);
          rfes = (subst (λ z. RfeBy c s y.state held z) (sym read) S.rfe, W.rfes);
          times = (S.sets, W.times);
          timely = S.timely W.timely;
          sums = record {
            accepted = omega (arith, S.accepted, m.accepted, sum_by-cons (λ (x : Event). accepted_in x.call x.reply) e es);
            done = omega (
              arith,
              S.done,
              m.done,
              sum_by-cons (λ (x : Event). sum_by done_on (slips_of x)) e es,
              ap
                  (λ z. sum_by done_on z) read,
            );
            out = omega (arith, S.out, m.out, sum_by-cons (λ (x : Event). sum_by out_on (slips_of x)) e es, ap (λ z. sum_by out_on z) read);
            balance = omega (arith, S.accepted, S.done, S.out, S.balance, m.balance);
            count = omega (arith, S.grows, m.count, sum_by-cons (λ (x : Event). by_numbered (λ _. 1) x.call x.reply) e es);
            numbers = S.numbers m.numbers;
            most = omega (arith, S.accepted, S.most, m.most, S.grows);
          };
        };
        summons = h.1;
        below = (
          ⊎_elim (λ z. omega (arith, z)) (λ z. (S.names z).1) (cases_eq (number_by c y.reply) 0),
          All-weaker _ (λ (x : Event). number_by x.call x.reply ≤ y.state.count) (λ x h. omega (arith, h, S.grows)) es K.below,
        );
      }

begins_kept : (test : ℕ → Bool) (reference reply : ℕ) → Kept test reference reply [] (fresh reference)
begins_kept test reference reply =
    record {
      good = begins test;
      common = record {
        chain = refl;
        rising = tt;
        ledger = λ t z. refl;
        entered = λ i o a. bare i o a;
        leaves = tt;
        quiet = λ _ _. record { apart = λ i j b s a c u v. bare i b a; unreached = λ q i o e a. bare i o a };
        brief = λ _ i o a. bare i o a;
        replies = tt;
        writes = tt;
        spares = tt;
        summonses = tt;
        rfes = tt;
        times = tt;
        timely = record {
          asked = λ some q r z. true_false true refl (ap is_asked (sym z));
          halted = λ until z. true_false true refl (ap is_halted (sym z));
        };
        sums = record { accepted = refl; done = refl; out = refl; balance = refl; count = refl; numbers = omega arith; most = omega arith };
      };
      below = tt;
      summons = record {
        clear = λ q e. none_some q e;
        low = omega arith;
        opener = omega arith;
        above = λ t l. refl;
        handed = λ z l. absurd (z refl);
      };
    }

-- ---- stories, over one sheet and one ranking
module _ (d : Day) (L : RankLaw d.rank) where
  pub keeps : {es : List Event} {s : State} → Story d es s → Kept (in_limit1 d) d.reference d.reply es s × AllByRecursion (Own d (in_limit1 d)) es
  keeps opened = (begins_kept (in_limit1 d) d.reference d.reply, tt)
  keeps (further {es} {s} st c paper held) =
      let K = keeps st in
      let y = yields d s (length paper) held c in
      let S = steps d (in_limit1 d) (λ p h. h) L s K.0.good (stretch es) (length paper) held c in (
        one_more d (in_limit1 d) d.reference es s K.0 c paper held y S,
        (own d (in_limit1 d) d.reference es s K.0 c paper held y S, K.1),
      )

pub every_story : EveryStory
every_story d L es s st =
    let K = keeps d L st in
    record {
      common = K.0.common;
      fair = All-weaker _ (FairEvent d) (λ e h. h.fair) es K.1;
      prices = All-weaker _ (PricedEvent d) (λ e h. h.prices) es K.1;
      phases = All-weaker _ (PhasedEvent d) (λ e h. h.phases) es K.1;
    }

-- ---- histories, each event under its own
unfoldable pub any_price : ℕ → Bool
any_price price = true

abbrev OwnDay : ℕ → ℕ → Event → Type 0
OwnDay reference reply e = (d : Day) × LawfulDay reference reply d × FairEvent d e × PhasedEvent d e

pub history_keeps : (reference reply : ℕ) {es : List Event} {s : State} → History reference reply es s →
    Kept any_price reference reply es s × AllByRecursion (OwnDay reference reply) es
unfolding any_price
history_keeps reference reply begun = (begins_kept any_price reference reply, tt)
history_keeps reference reply (more {es} {s} st d l c paper held) =
    let H = history_keeps reference reply st in
    let K = subst (λ n. Kept any_price reference n es s) (sym l.replies) H.0 in
    let y = yields d s (length paper) held c in
    let S = steps d any_price (λ p h. refl) l.ranking s K.good (stretch es) (length paper) held c in
    let O = own d any_price reference es s K c paper held y S in (
      subst (λ n. Kept any_price reference n (event_of c s paper held y ∷ es) y.state) l.replies
          (one_more d any_price reference es s K c paper held y S),
      ((d, l, O.fair, O.phases), H.1),
    )

pub every_history : EveryHistory
every_history reference reply es s st = let K = history_keeps reference reply st in record { common = K.0.common; own = K.1 }
