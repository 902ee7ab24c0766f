-- Between records the desk holds the summons of the open RFE, or a blank where none is open.
use Rattle.std.proofs.Common.{◌≡◌, ℕ, ◌<◌, true, false, eqb, ltb, ◌≢◌, List, length, Ok, Err, sym, refl, ap, ◌∙◌, subst, ⊎_elim, arith}
use Rattle.std.proofs.lemmas.Bool.{cases_eq, cond_both, cond-true, eqb-false, eqb-true, lt-ltb}
use Rattle.book.specs.Lowered.{Lowered, LoweredQuote}
use Rattle.book.specs.Picks.{reaches}
use Rattle.book.specs.Ranks.{RankLaw}
use Rattle.book.specs.declared.order.Order.{Order}
use Rattle.book.specs.declared.quote.Quote.{Quote}
use Rattle.book.specs.declared.side.Side.{Side}
use Rattle.book.specs.declared.side.Side.TheVariants.{Buy, Sell}
use Rattle.book.proofs.Bests.{true_false}
use Rattle.session.specs.Calls.{summons_of, validated}
use Rattle.session.specs.Checks.{Passed}
use Rattle.session.specs.Days.{Day}
use Rattle.session.specs.Phases.{is_asked, opener_of, quote_of}
use Rattle.session.specs.Stories.{Call, Enter, Cancel, Quoting, Withdraw, Collect, Validate, Decline, Clock, Renew, Event, Reply, Refused, Answered, Handed, Story, further, opened, replied, yields}
use Rattle.session.specs.StoryCounts.{WasAnswered, WasEntered, number_by}
use Rattle.session.specs.StoryFair.{in_limit1}
use Rattle.session.specs.StoryLaws.{Replies}
use Rattle.session.specs.StoryPhases.{Opens}
use Rattle.session.specs.StoryStretch.{stretch}
use Rattle.session.specs.StorySummonses.{spent_in}
use Rattle.session.specs.declared.answer.Answer.{Answer}
use Rattle.session.specs.declared.entry.Entry.{Entry}
use Rattle.session.specs.declared.phase.Phase.{Phase}
use Rattle.session.specs.declared.phase.Phase.TheVariants.{Dark, Lit, Asked, Halted}
use Rattle.session.specs.declared.phase.Rfe.{Rfe}
use Rattle.session.specs.declared.state.State.{State}
use Rattle.session.proofs.CallSteps.{steps}
use Rattle.session.proofs.Steps.{Hands, Step, Stood}
use Rattle.session.proofs.StoriesKeep.{keeps}
use Rattle.whole_key.specs.Calls.{call_of}
use Rattle.whole_key.specs.Seats.{Seat, after, makes, settled, tidied}
use Rattle.whole_key.specs.declared.request.Call.{Call as KeyCall}
use Rattle.whole_key.specs.declared.request.Call.TheVariants as key
use Rattle.whole_key.proofs.Endings.{declined_ends, validated_ends}
use Rattle.whole_key.proofs.Tidying.{declined_still}

abbrev pub Tidy : Seat → Type 0
Tidy seat = seat.held ≡ opener_of seat.state.phase

-- ---- an RFE has a ticket

module _ (d : Day) (L : RankLaw d.rank) where
  pub stepped : {es : List Event} {s : State} → Story d es s → (places held : ℕ) (c : Call) → Step d (in_limit1 d) s c (stretch es) places held (yields d s places held c)
  stepped {es} {s} st places held c = steps d (in_limit1 d) (λ p h. h) L s (keeps d L st).0.good (stretch es) places held c

  named : {es : List Event} {s : State} → Story d es s → (q : Quote) (r : Rfe) → s.phase ≡ Asked q r → r.opener ≢ 0
  named opened q r e = true_false true refl (ap is_asked (sym e))
  named (further {es} {s} st c paper held) q r e =
      let S = stepped st (length paper) held c in
      ⊎_elim (λ h. named st q r h)
      (λ (O : Opens d c s (yields d s (length paper) held c).state q r). λ z. S.good.table.sound.named O.asked.place O.asked.order O.asked.stands (O.asked.named ∙ z))
      (S.asks q r e)

  pub none_open : {es : List Event} {s : State} → Story d es s → opener_of s.phase ≡ 0 → is_asked s.phase ≡ false
  none_open {es} {s} st e = go s.phase refl e
    where
      go : (p : Phase) → s.phase ≡ p → opener_of p ≡ 0 → is_asked p ≡ false
      go Dark h k = refl
      go (Lit q) h k = refl
      go (Asked q r) h k = absurd (named st q r h k)
      go (Halted until) h k = refl

no_opener : (p : Phase) → is_asked p ≡ false → opener_of p ≡ 0
no_opener Dark h = refl
no_opener (Lit q) h = refl
no_opener (Asked q r) h = true_false true refl h
no_opener (Halted until) h = refl

-- ---- an RFE that opens has the ticket just given out: in a quiet book no other order reaches the quote

same_reach : (q q' : Quote) (o o' : Order) (side : Side) → LoweredQuote q' q → Lowered o' o → reaches q o side ≡ reaches q' o' side
same_reach q q' o o' Buy l m = rw (l.ask, m.price)
same_reach q q' o o' Sell l m = rw (l.bid, m.price)

entered_number : (o : Order) (e : Entry) (r : Reply) → WasAnswered o e r → number_by (Enter e) r ≡ o.ticket
entered_number o e (Refused fault) w = absurd w
entered_number o e (Answered a) w = sym w.ticket
entered_number o e (Handed summons) w = absurd w

module _ (d : Day) (L : RankLaw d.rank) {es : List Event} {s : State} (st : Story d es s) (places held : ℕ) (q : Quote) (r : Rfe) where
  newest : (e : Entry) → Opens d (Enter e) s (yields d s places held (Enter e)).state q r → s.count < r.opener
  newest e O =
      let K = (keeps d L st).0 in
      let S = stepped d L st places held (Enter e) in
      let y = yields d s places held (Enter e) in
      let A = O.asked in
      let same : q ≡ A.quote = cc A.is_step.0 in
      ⊎_elim
      (λ (w : WasEntered A.order (Enter e) y.reply).
      let n = entered_number A.order e y.reply w in
      let h = S.names (λ z. S.good.table.sound.named A.place A.order A.stands (sym n ∙ z)) in
      omega (arith, h.0, n, A.named))
      (λ (w : Stood s.table.rows A.place A.order).
      let Q = K.common.quiet (ap is_asked O.stood) (K.summons.clear O.governing (ap quote_of O.stood)) in
      let u = Q.unreached O.governing A.place w.0 (ap quote_of O.stood) w.1 in
      let v : reaches q A.order A.side ≡ true = subst (λ z. reaches z A.order A.side ≡ true) (sym same) A.reaching in
      let x : reaches O.governing w.0 A.side ≡ true = same_reach O.governing q w.0 A.order A.side O.left w.2 ∙ v in
      let side : w.0.side ≡ A.side = sym w.2.side ∙ A.on_side in
      true_false _ x (subst (λ z. reaches O.governing w.0 z ≡ false) side u))
      (S.enters A.place A.order A.stands)

  fresh_opener : (c : Call) → Opens d c s (yields d s places held c).state q r → s.count < r.opener
  fresh_opener (Enter e) O = newest e O
  fresh_opener (Cancel sender ticket) O = true_false false O.entered refl
  fresh_opener (Quoting o flagged) O = true_false false O.entered refl
  fresh_opener Withdraw O = true_false false O.entered refl
  fresh_opener Collect O = true_false false O.entered refl
  fresh_opener (Validate o flagged) O = true_false false O.entered refl
  fresh_opener Decline O = true_false false O.entered refl
  fresh_opener (Clock seconds) O = true_false false O.entered refl
  fresh_opener Renew O = true_false false O.entered refl

-- ---- what the desk does after a call

summons_is : (s : State) → (opener_of s.phase ≢ 0 → s.collected < opener_of s.phase) → summons_of s ≡ opener_of s.phase
summons_is s h =
    ⊎_elim
    (λ (z : opener_of s.phase ≡ 0). cond_both (ltb s.collected (opener_of s.phase)) (opener_of s.phase) 0 (λ v. v ≡ opener_of s.phase) (λ _. refl) (λ _. sym z))
    (λ (z : opener_of s.phase ≢ 0). cond-true (ltb s.collected (opener_of s.phase)) (opener_of s.phase) 0 (lt-ltb s.collected (opener_of s.phase) (h z)))
    (cases_eq (opener_of s.phase) 0)

collected_held : (d : Day) (s : State) (held : ℕ) → held ≢ opener_of s.phase → (opener_of s.phase ≢ 0 → s.collected < opener_of s.phase) →
    Tidy (after (after (record { day = d; state = s; held = held }) Decline) Collect)
unfolding yields
collected_held d s held ne h =
    subst (λ (z : State). summons_of z ≡ opener_of z.phase) (sym (ap (λ z. z.state) (declined_still d s held ne))) (summons_is s h)

tidied_tidy : (seat : Seat) → (opener_of seat.state.phase ≢ 0 → seat.held ≢ opener_of seat.state.phase → seat.state.collected < opener_of seat.state.phase) →
    Tidy (tidied seat)
tidied_tidy seat h =
    cond_both (eqb seat.held (opener_of seat.state.phase)) seat (after (after seat Decline) Collect) Tidy
    (λ e. eqb-true seat.held (opener_of seat.state.phase) e)
    (λ e. let ne = eqb-false seat.held (opener_of seat.state.phase) e in collected_held seat.day seat.state seat.held ne (λ z. h z ne))

-- ---- a record makes a call that is refused or answered

abbrev Replied : Reply → Type 0
Replied (Refused fault) = Unit {0}
Replied (Answered a) = Unit {0}
Replied (Handed summons) = ⊥

is_replied : (r : Passed Answer) → Replied (replied r)
is_replied (Ok a) = tt
is_replied (Err fault) = tt

never_handed : (seat : Seat) (c : KeyCall) → Replied (makes seat (call_of c)).reply
unfolding yields
never_handed seat (key.Enter e) = is_replied _
never_handed seat (key.Cancel sender ticket) = is_replied _
never_handed seat (key.Quote q) = is_replied _
never_handed seat (key.Validate q) = is_replied _
never_handed seat (key.Clock seconds) = is_replied _
never_handed seat key.Withdraw = is_replied _
never_handed seat key.Decline = is_replied _
never_handed seat key.Renew = tt

answered_ok : (a : Answer) (r : Passed Answer) → Answered a ≡ replied r → Ok a ≡ r
answered_ok a (Ok b) e = cc
answered_ok a (Err fault) e = let z : ◌≡◌ {A = ℕ} 0 1 = cc in absurd (omega arith)

-- an RFE that is open after a call is held, or its summons was never collected
abbrev Collectable : Seat → Type 0
Collectable seat =
    opener_of seat.state.phase ≢ 0 → seat.held ≢ opener_of seat.state.phase → seat.state.collected < opener_of seat.state.phase

module _ (d : Day) (L : RankLaw d.rank) {es : List Event} {s : State} (st : Story d es s) (held : ℕ) (same : held ≡ opener_of s.phase) where
  abbrev seat : Seat
  seat = record { day = d; state = s; held = held }

  ends_held : (c : Call) → is_asked (makes seat c).state.phase ≡ false → Collectable (after seat c)
  ends_held c h some ne = absurd (some (no_opener (makes seat c).state.phase h))

  keeps_held : (c : Call) (a : Answer) → (makes seat c).reply ≡ Answered a → spent_in c held ≡ held → Collectable (after seat c)
  keeps_held c a is keeping some ne = go (makes seat c).state.phase refl
    where
      go : (p : Phase) → (makes seat c).state.phase ≡ p → (makes seat c).state.collected < opener_of (makes seat c).state.phase
      go Dark e = absurd (some (ap opener_of e))
      go (Lit q) e = absurd (some (ap opener_of e))
      go (Asked q r) e =
          let S = stepped d L st 129 held c in
          let hands = subst (Hands c s held (makes seat c)) is S.hands in
          ⊎_elim
          (λ (h : s.phase ≡ Asked q r). absurd (ne (hands.0 ∙ keeping ∙ same ∙ ap opener_of h ∙ sym (ap opener_of e))))
          (λ (O : Opens d c s (makes seat c).state q r).
          let new = fresh_opener d L st 129 held q r c O in
          let low = (keeps d L st).0.summons.low in
          omega (arith, new, low, hands.1, ap opener_of e))
          (S.asks q r e)
      go (Halted until) e = absurd (some (ap opener_of e))

  answered : (c : KeyCall) (a : Answer) → (makes seat (call_of c)).reply ≡ Answered a → Collectable (after seat (call_of c))
  unfolding yields
  answered (key.Enter e) a is = keeps_held (Enter e) a is refl
  answered (key.Cancel sender ticket) a is = keeps_held (Cancel sender ticket) a is refl
  answered (key.Quote q) a is = keeps_held (Quoting q.offer q.flagged) a is refl
  answered (key.Validate q) a is =
      ends_held (Validate q.offer q.flagged) (validated_ends d s 129 held q.offer q.flagged a (answered_ok a (validated d s 129 held q.offer q.flagged).result (sym is)))
  answered (key.Clock seconds) a is = keeps_held (Clock seconds) a is refl
  answered key.Withdraw a is = keeps_held Withdraw a is refl
  answered key.Decline a is = ends_held Decline (declined_ends d s held same)
  answered key.Renew a is = keeps_held Renew a is refl

  pub settled_tidy : (c : KeyCall) → Tidy (settled (makes seat (call_of c)).reply (after seat (call_of c)))
  settled_tidy c = go (makes seat (call_of c)).reply refl (never_handed seat c)
    where
      go : (r : Reply) → (makes seat (call_of c)).reply ≡ r → Replied r → Tidy (settled r (after seat (call_of c)))
      go (Refused fault) is h =
          let S = stepped d L st 129 held (call_of c) in
          let hands = subst (Hands (call_of c) s held (makes seat (call_of c))) is S.hands in
          let still = subst (λ z. Replies (call_of c) z s (makes seat (call_of c)).state s.count) is S.replies in
          hands.0 ∙ same ∙ ap (λ z. opener_of z.phase) (sym still)
      go (Answered a) is h = tidied_tidy (after seat (call_of c)) (answered c a is)
      go (Handed summons) is h = absurd h

  -- at the day's end, with a decline or without one
  pub declined_closes : is_asked (makes seat Decline).state.phase ≡ false
  unfolding yields
  declined_closes = declined_ends d s held same
