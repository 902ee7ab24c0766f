-- The summons of an RFE is handed over once, at the first collect.
use Rattle.std.proofs.Common.{◌≡◌, ℕ, ◌<◌, ◌≤◌, Bool, true, false, cond, eqb, ltb, ◌≢◌, ◌⊎◌, List, ◌∷◌, sym, refl, ap, ◌∙◌, subst, inl, inr, ⊎_elim, arith}
use Rattle.std.proofs.lemmas.Bool.{cases_Bool, cases_eq, cond_both, cond-false, cond-true, eq-eqb, ltb-false, ltb-true, ne_eqb, or_from, or_left, or_right}
use Rattle.book.specs.Lowered.{Lowered, LoweredQuote}
use Rattle.book.specs.Picks.{reaches}
use Rattle.book.specs.declared.order.Order.{Order}
use Rattle.book.specs.declared.quote.Quote.{Quote}
use Rattle.book.specs.declared.side.Side.{Side}
use Rattle.book.specs.declared.side.Side.TheVariants.{Buy, Sell}
use Rattle.book.specs.declared.slip.Slip.{Slip}
use Rattle.book.proofs.Bests.{true_false}
use Rattle.session.specs.Calls.{collecting, summons_of}
use Rattle.session.specs.Days.{Day, State}
use Rattle.session.specs.Phases.{Phase, Dark, Lit, Asked, Halted, Rfe, is_asked, opener_of, quote_of}
use Rattle.session.specs.Stories.{Call, Enter, Cancel, Quoting, Withdraw, Collect, Validate, Decline, Clock, Renew, Reply, Refused, Answered, Handed, Event, Yield, event_of}
use Rattle.session.specs.StoryCounts.{WasEntered, number_by}
use Rattle.session.specs.StoryPhases.{Opens}
use Rattle.session.specs.StoryStretch.{stretch}
use Rattle.session.specs.StorySummonses.{SummonsBy, is_handed, was_handed}
use Rattle.session.proofs.Steps.{Cleared, Hands, Quieted, Step, Stood}

pub record SummonsKept (es : List Event) (s : State) : Type 0 where
  pub clear : Cleared (stretch es) s.phase
  pub low : s.collected ≤ s.count
  pub opener : opener_of s.phase ≤ s.count
  pub above : (t : ℕ) → s.collected < t → was_handed t es ≡ false
  pub handed : opener_of s.phase ≢ 0 → opener_of s.phase ≤ s.collected → was_handed (opener_of s.phase) es ≡ true

entered_number : (o : Order) (c : Call) (r : Reply) → WasEntered o c r → number_by c r ≡ o.ticket
entered_number o (Enter e) (Refused fault) w = absurd w
entered_number o (Enter e) (Answered a) w = sym w.ticket
entered_number o (Enter e) (Handed summons) w = absurd w
entered_number o (Cancel sender ticket) r w = absurd w
entered_number o (Quoting q flagged) r w = absurd w
entered_number o Withdraw r w = absurd w
entered_number o Collect r w = absurd w
entered_number o (Validate q flagged) r w = absurd w
entered_number o Decline r w = absurd w
entered_number o (Clock seconds) r w = absurd w
entered_number o Renew r w = absurd w

phase_opener : (ph : Phase) → (opener_of ph ≡ 0) ⊎ ((q : Quote) × ((r : Rfe) × (ph ≡ Asked q r)))
phase_opener Dark = inl refl
phase_opener (Lit q) = inl refl
phase_opener (Asked q r) = inr (q, (r, refl))
phase_opener (Halted until) = inl refl

same_reach : (q q' : Quote) (o o' : Order) (side : Side) → LoweredQuote q' q → Lowered o' o → reaches q o side ≡ reaches q' o' side
same_reach q q' o o' Buy l m = rw (l.ask, m.price)
same_reach q q' o o' Sell l m = rw (l.bid, m.price)

module _ (d : Day) (test : ℕ → Bool) (es : List Event) (s : State) (K : SummonsKept es s) (quiet : Quieted (stretch es) s)
    (c : Call) (paper : List Slip) (places held : ℕ) (y : Yield) (S : Step d test s c (stretch es) places held y) where
  abbrev e : Event
  e = event_of c s paper held y

  -- an RFE that opens is told by the ticket just given out: in a quiet book no other order reaches the quote
  newest : (q : Quote) (r : Rfe) → Opens d c s y.state q r → (s.count < r.opener) × (r.opener ≤ y.state.count)
  newest q r O =
      let A = O.asked in
      let t = A.named in
      let same : q ≡ A.quote = cc A.is_step.0 in
      ⊎_elim
      (λ (w : WasEntered A.order c y.reply).
      let n = entered_number A.order c y.reply w in
      let h = S.names (λ z. S.good.table.sound.named A.place A.order A.stands (sym n ∙ z)) in
      (omega (arith, h.0, n, t), omega (arith, h.1, n, t)))
      (λ (w : Stood s.table.rows A.place A.order).
      let Q = quiet (ap is_asked O.stood) (K.clear O.governing (ap quote_of O.stood)) in
      let u = Q.unreached O.governing A.place w.0 (ap quote_of O.stood) w.1 in
      let v : reaches q A.order A.side ≡ true = subst (λ z. reaches z A.order A.side ≡ true) (sym same) A.reaching in
      let x : reaches O.governing w.0 A.side ≡ true = same_reach O.governing q w.0 A.order A.side O.left
      w.2 ∙ v in
      let side : w.0.side ≡ A.side = sym w.2.side ∙ A.on_side in
      true_false _ x (subst (λ z. reaches O.governing w.0 z ≡ false) side u))
      (S.enters A.place A.order A.stands)

  abbrev Opener : Type 0
  Opener =
      (opener_of y.state.phase ≡ 0)
      ⊎ ((opener_of y.state.phase ≡ opener_of s.phase) ⊎ ((s.count < opener_of y.state.phase) ×
      (opener_of y.state.phase ≤ y.state.count)))

  opener_is : Opener
  opener_is = ⊎_elim (λ z. inl z) (λ (w : (q : Quote) × ((r : Rfe) × (y.state.phase ≡ Asked q r))). inr
      (go w.0 w.1.0 w.1.1)) (phase_opener y.state.phase)
    where
      go : (q : Quote) (r : Rfe) → y.state.phase ≡ Asked q r →
          (opener_of y.state.phase ≡ opener_of s.phase) ⊎ ((s.count < opener_of y.state.phase) ×
          (opener_of y.state.phase ≤ y.state.count))
      go q r h =
          let n : opener_of y.state.phase ≡ r.opener = ap opener_of h in
          ⊎_elim (λ (k : s.phase ≡ Asked q r). inl (n ∙ sym (ap opener_of k)))
          (λ (k : Opens d c s y.state q r). let w = newest q r k in inr (omega (arith, n, w.0), omega (arith, n, w.1))) (S.asks q r h)

  -- a call that hands nothing over
  other : ((t : ℕ) → is_handed t y.reply ≡ false) → y.state.collected ≡ s.collected → SummonsKept (e ∷ es) y.state
  other no-hand co =
      record {
        clear = S.clear K.clear;
        low = omega (arith, co, K.low, S.grows);
        opener = ⊎_elim (λ z. omega (arith, z)) (λ w. ⊎_elim (λ z. omega (arith, z, K.opener, S.grows)) (λ z. z.1) w) opener_is;
        above = λ t l. or_from _ _ (no-hand t) (K.above t (omega (arith, l, co)));
        handed = λ z l.
            ⊎_elim (λ k. absurd (z k))
            (λ w.
            ⊎_elim
            (λ (k : opener_of y.state.phase ≡ opener_of s.phase).
            or_right _ _
            (subst (λ v. was_handed v es ≡ true) (sym k) (K.handed (λ m. z (k ∙ m)) (omega (arith, k, l, co)))))
            (λ (k : (s.count < opener_of y.state.phase) × (opener_of y.state.phase ≤ y.state.count)). absurd
            (omega (arith, k.0, l, co, K.low))) w)
            opener_is;
      }

  -- collect
  collects : (n : ℕ) → y.reply ≡ Handed n → n ≡ summons_of s → y.state ≡ collecting s →
      (n ≡ cond (was_handed (opener_of s.phase) es) 0 (opener_of s.phase)) × SummonsKept (e ∷ es) y.state
  collects n is num st = ⊎_elim first later (cases_Bool (ltb s.collected (opener_of s.phase)))
    where
      op : opener_of y.state.phase ≡ opener_of s.phase
      op = ap (λ z. opener_of z.phase) st

      col : y.state.collected ≡ cond (ltb s.collected (opener_of s.phase)) (opener_of s.phase) s.collected
      col = ap (λ z. z.collected) st

      cnt : y.state.count ≡ s.count
      cnt = ap (λ z. z.count) st

      hand : (t : ℕ) → is_handed t y.reply ≡ eqb n t
      hand t = ap (λ z. is_handed t z) is

      first : ltb s.collected (opener_of s.phase) ≡ true → (n ≡ cond (was_handed (opener_of s.phase) es) 0
          (opener_of s.phase)) × SummonsKept (e ∷ es) y.state
      first b =
          let l = ltb-true _ _ b in
          let m : n ≡ opener_of s.phase = num ∙ cond-true _ _ _ b in
          let k : y.state.collected ≡ opener_of s.phase = col ∙ cond-true _ _ _ b in (
            m ∙ sym (cond-false _ _ _ (K.above _ l)),
            record {
              clear = S.clear K.clear;
              low = omega (arith, k, cnt, K.opener);
              opener = omega (arith, op, cnt, K.opener);
              above = λ t z. or_from _ _ (hand t ∙ ne_eqb n t (λ v. omega (arith, v, m, k, z))) (K.above t (omega (arith, z, k, l)));
              handed = λ z v. or_left _ _ (hand _ ∙ eq-eqb n _ (m ∙ sym op));
            },
          )

      later : ltb s.collected (opener_of s.phase) ≡ false → (n ≡ cond (was_handed (opener_of s.phase) es) 0
          (opener_of s.phase)) × SummonsKept (e ∷ es) y.state
      later b =
          let l = ltb-false _ _ b in
          let m : n ≡ 0 = num ∙ cond-false _ _ _ b in
          let k : y.state.collected ≡ s.collected = col ∙ cond-false _ _ _ b in (
            cond_both (was_handed (opener_of s.phase) es) 0 (opener_of s.phase) (λ z. n ≡ z) (λ _. m)
                (λ no-hand.
                ⊎_elim (λ (z : opener_of s.phase ≡ 0). m ∙ sym z) (λ (z : opener_of s.phase ≢ 0). true_false _ (K.handed z l) no-hand)
                (cases_eq (opener_of s.phase) 0)),
            record {
              clear = S.clear K.clear;
              low = omega (arith, k, cnt, K.low);
              opener = omega (arith, op, cnt, K.opener);
              above = λ t z. or_from _ _ (hand t ∙ ne_eqb n t (λ v. omega (arith, v, m, k, z))) (K.above t (omega (arith, z, k)));
              handed = λ z v.
                  or_right _ _ (subst (λ x. was_handed x es ≡ true) (sym op) (K.handed (λ x. z (op ∙ x)) l));
            },
          )

  pub summons_more : SummonsBy c y.reply s held y.summons es × SummonsKept (e ∷ es) y.state
  summons_more = go y.reply refl S.hands
    where
      go : (r : Reply) → y.reply ≡ r → Hands c s held y r → SummonsBy c r s held y.summons es × SummonsKept (e ∷ es) y.state
      go (Refused f) is h = (h.0, other (λ t. ap (λ z. is_handed t z) is) h.1)
      go (Answered a) is h = (h.0, other (λ t. ap (λ z. is_handed t z) is) h.1)
      go (Handed n) is h = let k = collects n is h.1 h.2 in ((h.0, k.0), k.1)
