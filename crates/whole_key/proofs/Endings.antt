-- A cross that no enter began opens no RFE: a validate ends the RFE, and so does a decline with its summons.
use Rattle.std.proofs.Common.{◌≡◌, ℕ, zero, suc, Bool, true, false, ◌&&◌, leb, Some, None, Ok, Err, Option, sym, refl, ap, subst, arith}
use Rattle.std.proofs.lemmas.Bool.{and_parts, cond_both, eq-eqb}
use Rattle.figures.specs.declared.offer.Offer.{Offer}
use Rattle.book.specs.Boards.{Board}
use Rattle.book.specs.Cross.{Run, onwards, work}
use Rattle.book.specs.Firsts.{first}
use Rattle.book.specs.Makes.{after, board_of}
use Rattle.book.specs.Moves.{choice, dealt, expiry, in_limit, in_quote, met, next, pairing, pairing_at, step_b, steps, sweep, taken, trading, with_order, with_quote}
use Rattle.book.specs.Ranks.{Rank}
use Rattle.book.specs.Tables.{Rows}
use Rattle.book.specs.declared.found.Found.{Found}
use Rattle.book.specs.declared.frame.Frame.{Frame}
use Rattle.book.specs.declared.moves.Move.{Move}
use Rattle.book.specs.declared.moves.Move.TheVariants.{Stop, Ask, Deal, Strike, Halt}
use Rattle.book.specs.Moves.{Party}
use Rattle.book.specs.Picks.{Any, Partner, Taking}
use Rattle.book.specs.declared.proposal.Proposal.{Proposal}
use Rattle.book.specs.declared.quote.Quote.{Quote}
use Rattle.book.specs.declared.side.Side.{Side}
use Rattle.book.specs.declared.side.Side.TheVariants.{Buy, Sell}
use Rattle.book.proofs.Bests.{true_false}
use Rattle.session.specs.Acts.{putting, withdrawing}
use Rattle.session.specs.Calls.{Outcome, declined, declining, done, guarded, number_of, quote_from, validated}
use Rattle.session.specs.Checks.{Passed, validate_check}
use Rattle.session.specs.Days.{Day}
use Rattle.session.specs.Phases.{is_asked, opener_of, quote_of}
use Rattle.session.specs.Runs.{crossing, frame_of, lit_by, phase_by}
use Rattle.session.specs.declared.act.Act.TheVariants.{Put}
use Rattle.session.specs.declared.answer.Answer.{Answer}
use Rattle.session.specs.declared.phase.Phase.{Phase}
use Rattle.session.specs.declared.phase.Phase.TheVariants.{Dark, Lit, Asked, Halted}
use Rattle.session.specs.declared.state.State.{State}

abbrev NoAsk : Move → Type 0
NoAsk Stop = Unit {0}
NoAsk (Ask t) = ⊥
NoAsk (Deal x y p n) = Unit {0}
NoAsk (Strike c f) = Unit {0}
NoAsk (Halt f) = Unit {0}

module _ (rank : Rank) (f : Frame) (calm : f.entered ≡ false) where
  dealing : (s : Side) (x y : Party) (p n : ℕ) → NoAsk (dealt s x y p n)
  dealing Buy x y p n = tt
  dealing Sell x y p n = tt

  trades : (s : Side) (t : Found) (x : Party) (p : Proposal) → NoAsk (trading f s t x p)
  unfolding trading
  trades s t x p = cond_both (in_limit f p.price) _ _ NoAsk (λ _. dealing s _ x p.price _) (λ _. tt)

  quoted : (q : Quote) (s : Side) (t : Found) → NoAsk (with_quote f q s t)
  quoted q s t =
      cond_both (q.flagged && f.entered) _ _ NoAsk (λ e. true_false f.entered (and_parts q.flagged f.entered e).1 calm) (λ _. trades s t _ _)

  chooses : (q : Quote) (s : Side) (t : Found) (p : Option Found) → NoAsk (choice rank f q s t p)
  chooses q s t None = quoted q s t
  chooses q s t (Some p) = cond_both _ (with_order f s t p) (with_quote f q s t) NoAsk (λ _. trades s t _ _) (λ _. quoted q s t)

  expires : (o : Option Found) → NoAsk (expiry o)
  expires None = tt
  expires (Some x) = tt

  pairs : (b s : Found) (price : ℕ) → NoAsk (pairing_at f b s price)
  pairs b s price = cond_both (in_quote f price) _ _ NoAsk (λ _. cond_both (in_limit f price) _ _ NoAsk (λ _. tt) (λ _. tt)) (λ _. tt)

  meets : (rows : Rows) (b s : Option Found) → NoAsk (met rank f rows b s)
  meets rows None s = expires _
  meets rows (Some b) None = expires _
  meets rows (Some b) (Some s) = cond_both (leb s.order.price b.order.price) (pairing f b s) (sweep rank rows) NoAsk (λ _. pairs b s _) (λ _. expires _)

  step_b_lem : (rows : Rows) → NoAsk (step_b rank f rows)
  step_b_lem rows = meets rows (first rank (Any Buy) rows) (first rank (Any Sell) rows)

  takes : (rows : Rows) (q : Quote) (x y : Option Found) → NoAsk (taken rank f rows q x y)
  takes rows q (Some t) y = chooses q Buy t (first rank (Partner Sell q f.opener) rows)
  takes rows q None (Some t) = chooses q Sell t (first rank (Partner Buy q f.opener) rows)
  takes rows q None None = step_b_lem rows

  stepping : (rows : Rows) (q : Option Quote) → NoAsk (steps rank f rows q)
  stepping rows None = step_b_lem rows
  stepping rows (Some q) = takes rows q (first rank (Taking Buy q) rows) (first rank (Taking Sell q) rows)

  nexts : (b : Board) → NoAsk (next rank f b)
  unfolding next
  nexts b = cond_both b.halted (sweep rank b.table.rows) (steps rank f b.table.rows b.quote) NoAsk (λ _. expires _) (λ _. stepping b.table.rows b.quote)

  goes_on : (m : Move) (b : Board) (r : Run) → NoAsk m → r.asked ≡ None → (onwards m b r).asked ≡ None
  goes_on Stop b r h e = refl
  goes_on (Ask t) b r h e = absurd h
  goes_on (Deal x y p n) b r h e = e
  goes_on (Strike c x) b r h e = e
  goes_on (Halt x) b r h e = e

  works : (fuel : ℕ) (b : Board) → (work rank f fuel b).asked ≡ None
  unfolding work
  works zero b = refl
  works (suc fuel) b = goes_on (next rank f b) b (work rank f fuel (after (next rank f b) b)) (nexts b) (works fuel (after (next rank f b) b))

unasked : (d : Day) (clock : ℕ) (b : Board) → is_asked (phase_by d clock None b) ≡ false
unasked d clock b = cond_both b.halted _ _ (λ z. is_asked z ≡ false) (λ _. refl) (λ _. lit b.quote)
  where
    lit : (q : Option Quote) → is_asked (lit_by q) ≡ false
    lit None = refl
    lit (Some q) = refl

crossed : (d : Day) (s : State) (q : Quote) (stands : Option Quote) → is_asked (crossing d s q stands false).state.phase ≡ false
unfolding crossing
crossed d s q stands =
    let f = frame_of d s q false in
    let r = work d.rank f 129 (board_of s.table.rows stands false) in
    subst (λ a. is_asked (phase_by d s.clock a r.board) ≡ false) (sym (works d.rank f refl 129 (board_of s.table.rows stands false))) (unasked d s.clock r.board)

puts : (d : Day) (s : State) (q : Quote) (p : Phase) → s.phase ≡ p → is_asked (putting d s q p).state.phase ≡ false
puts d s q Dark e = crossed d s q (Some q)
puts d s q (Lit old) e = crossed d s q (Some q)
puts d s q (Asked old r) e = crossed d s q (Some q)
puts d s q (Halted until) e = ap is_asked e

withdraws : (d : Day) (s : State) (p : Phase) → s.phase ≡ p → is_asked (withdrawing d s p).state.phase ≡ false
withdraws d s Dark e = ap is_asked e
withdraws d s (Lit q) e = refl
withdraws d s (Asked q r) e = crossed d s q None
withdraws d s (Halted until) e = ap is_asked e

accepted : (s : State) (c : Passed (Unit {0})) (x : Outcome) (a : Answer) → is_asked x.state.phase ≡ false → Ok a ≡ (guarded s c (λ _. x)).result →
    is_asked (guarded s c (λ _. x)).state.phase ≡ false
accepted s (Ok u) x a h e = h
accepted s (Err fault) x a h e = let z : ◌≡◌ {A = ℕ} 0 1 = cc in absurd (omega arith)

pub validated_ends : (d : Day) (s : State) (places held : ℕ) (o : Offer) (flagged : Bool) (a : Answer) →
    Ok a ≡ (validated d s places held o flagged).result → is_asked (validated d s places held o flagged).state.phase ≡ false
unfolding done
validated_ends d s places held o flagged a h =
    let number = number_of (quote_of s.phase) in
    let q = quote_from o flagged number in
    accepted s (validate_check d s places held o) (done d s (Put q) number) a (puts d s q s.phase refl) h

-- whatever the desk holds, where that is the summons of the open RFE or a blank
pub declined_ends : (d : Day) (s : State) (held : ℕ) → held ≡ opener_of s.phase → is_asked (declined d s 129 held).state.phase ≡ false
unfolding done
declined_ends d s held same =
    subst (λ v. is_asked (declining d s (is_asked s.phase && v)).state.phase ≡ false) (sym (eq-eqb held (opener_of s.phase) same)) (go (is_asked s.phase) refl)
  where
    go : (v : Bool) → is_asked s.phase ≡ v → is_asked (declining d s (v && true)).state.phase ≡ false
    go true is = withdraws d s s.phase refl
    go false is = is
