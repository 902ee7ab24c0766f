-- What an accepted call leaves alone, and how many slips it writes: one more than a cross, for a cancel.
use Rattle.std.proofs.Common.{◌≡◌, ℕ, ◌≤◌, Bool, true, false, leb, length, Some, None, Option, refl, arith}
use Rattle.std.proofs.lemmas.Bool.{cond_both}
use Rattle.book.specs.Firsts.{is_reached}
use Rattle.book.specs.declared.order.Order.{Order}
use Rattle.book.specs.declared.quote.Quote.{Quote}
use Rattle.session.specs.Acts.{Act, Enter, Cancel, Put, Withdraw, Clock, acted, at_clock}
use Rattle.session.specs.Acts.{cancelling, entering, freeing, placing, putting, restarted, still, ticking, withdrawing}
use Rattle.session.specs.Bounds.{Few}
use Rattle.session.specs.Days.{Day, State}
use Rattle.session.specs.Phases.{Phase, Dark, Lit, Asked, Halted}
use Rattle.session.specs.Runs.{Acted, crossing, with_phase}
use Rattle.session.proofs.Counts.{crossing_few}

-- ---- the totals

abbrev Same : State → Acted → Type 0
Same s a = a.state.totals ≡ s.totals

crossing_same : (d : Day) (s : State) (q : Quote) (stands : Option Quote) (entered : Bool) → Same s (crossing d s q stands entered)
unfolding crossing
crossing_same d s q stands entered = refl

entering_same : (d : Day) (s : State) (o : Order) (p : Phase) → Same s (entering d s o p)
entering_same d s o Dark = refl
entering_same d s o (Lit q) = crossing_same d (placing s o) q (Some q) true
entering_same d s o (Asked q r) = refl
entering_same d s o (Halted until) = refl

cancelling_same : (d : Day) (s : State) (p : Phase) → Same s (cancelling d s p)
cancelling_same d s Dark = refl
cancelling_same d s (Lit q) = refl
cancelling_same d s (Asked q r) = cond_both (is_reached q s.table.rows) (still s) (crossing d s q (Some q) false) (Same s) (λ _. refl) (λ _. crossing_same d s q (Some q) false)
cancelling_same d s (Halted until) = refl

putting_same : (d : Day) (s : State) (q : Quote) (p : Phase) → Same s (putting d s q p)
putting_same d s q Dark = crossing_same d s q (Some q) false
putting_same d s q (Lit old) = crossing_same d s q (Some q) false
putting_same d s q (Asked old r) = crossing_same d s q (Some q) false
putting_same d s q (Halted until) = refl

withdrawing_same : (d : Day) (s : State) (p : Phase) → Same s (withdrawing d s p)
withdrawing_same d s Dark = refl
withdrawing_same d s (Lit q) = refl
withdrawing_same d s (Asked q r) = crossing_same d s q None false
withdrawing_same d s (Halted until) = refl

ticking_same : (d : Day) (s : State) (p : Phase) → Same s (ticking d s p)
ticking_same d s Dark = refl
ticking_same d s (Lit q) = refl
ticking_same d s (Asked q r) = cond_both (leb r.due s.clock) (withdrawing d s (Asked q r)) (still s) (Same s) (λ _. withdrawing_same d s (Asked q r)) (λ _. refl)
ticking_same d s (Halted until) = cond_both (leb until s.clock) (with_phase s Dark) s (λ z. z.totals ≡ s.totals) (λ _. refl) (λ _. refl)

pub acted_totals : (d : Day) (s : State) (act : Act) → (acted d s act).state.totals ≡ s.totals
acted_totals d s (Enter o) = entering_same d s o s.phase
acted_totals d s (Cancel f) = cancelling_same d (freeing s f) s.phase
acted_totals d s (Put q) = putting_same d s q s.phase
acted_totals d s Withdraw = withdrawing_same d s s.phase
acted_totals d s (Clock seconds) = ticking_same d (at_clock s seconds) s.phase

-- ---- the slips

abbrev Fits : Acted → Type 0
Fits a = length a.slips ≤ 129

none : (s : State) → Fits (still s)
none s = omega arith

entering_few : (d : Day) (s : State) (o : Order) (p : Phase) → Fits (entering d s o p)
entering_few d s o Dark = none s
entering_few d s o (Lit q) = crossing_few d (placing s o) q (Some q) true
entering_few d s o (Asked q r) = none (placing s o)
entering_few d s o (Halted until) = none s

putting_few : (d : Day) (s : State) (q : Quote) (p : Phase) → Fits (putting d s q p)
putting_few d s q Dark = crossing_few d s q (Some q) false
putting_few d s q (Lit old) = crossing_few d s q (Some q) false
putting_few d s q (Asked old r) = crossing_few d s q (Some q) false
putting_few d s q (Halted until) = none s

withdrawing_few : (d : Day) (s : State) (p : Phase) → Fits (withdrawing d s p)
withdrawing_few d s Dark = none s
withdrawing_few d s (Lit q) = none (with_phase s Dark)
withdrawing_few d s (Asked q r) = crossing_few d s q None false
withdrawing_few d s (Halted until) = none s

ticking_few : (d : Day) (s : State) (p : Phase) → Fits (ticking d s p)
ticking_few d s Dark = none s
ticking_few d s (Lit q) = none s
ticking_few d s (Asked q r) = cond_both (leb r.due s.clock) (withdrawing d s (Asked q r)) (still s) Fits (λ _. withdrawing_few d s (Asked q r)) (λ _. none s)
ticking_few d s (Halted until) = none (restarted s until)

pub enter_few : (d : Day) (s : State) (o : Order) → Few d s (Enter o)
enter_few d s o = entering_few d s o s.phase

pub put_few : (d : Day) (s : State) (q : Quote) → Few d s (Put q)
put_few d s q = putting_few d s q s.phase

pub withdraw_few : (d : Day) (s : State) → Few d s Withdraw
withdraw_few d s = withdrawing_few d s s.phase

pub clock_few : (d : Day) (s : State) (seconds : ℕ) → Few d s (Clock seconds)
clock_few d s seconds = ticking_few d (at_clock s seconds) s.phase
