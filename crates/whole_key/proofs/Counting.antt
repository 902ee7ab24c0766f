-- What an answer counts is what was written: the slips are read again from the list.
use Rattle.std.proofs.Common.{◌≡◌, ℕ, ◌≤◌, Bool, true, false, List, length, take, Ok, Err, sym, refl, ap, ◌∙◌, subst, arith, take_at}
use lib.Seq.{sets-eq}
use Rattle.book.specs.Cross.{written}
use Rattle.book.specs.Ranks.{RankLaw}
use Rattle.book.specs.declared.slip.Slip.{Slip}
use Rattle.session.specs.Bounds.{Few}
use Rattle.session.specs.Calls.{Outcome, declining, done, guarded}
use Rattle.session.specs.Checks.{Passed, cancel_check, clock_check, enter_check, fits, quote_test, room_check, validate_check, withdraw_check}
use Rattle.session.specs.Days.{Day}
use Rattle.session.specs.Phases.{opener_of}
use Rattle.session.specs.Histories.{Past}
use Rattle.session.specs.Stories.{Call, Enter, Cancel, Quoting, Withdraw, Collect, Validate, Decline, Clock, Renew, Reply, Refused, Answered, Handed, Yield, keeping, yields}
use Rattle.session.specs.StoryCounts.{counts}
use Rattle.session.specs.declared.act.Act.{Act}
use Rattle.session.specs.declared.answer.Answer.{Answer}
use Rattle.session.specs.declared.state.State.{State}
use Rattle.session.proofs.Passing.{cancel_passed}
use Rattle.session.proofs.Keeps.{clock_few, enter_few, put_few, withdraw_few}
use Rattle.session.proofs.Pasts.{cancel_fits_by}
use Rattle.program.specs.Tellings.{told_lines}
use Rattle.whole_key.specs.Tellings.{reply_lines, yield_lines}

-- an answer tells the opening ticket of the open RFE
abbrev pub TellsOpener : Reply → State → Type 0
TellsOpener (Refused fault) s = Unit {0}
TellsOpener (Answered a) s = a.opener ≡ opener_of s.phase
TellsOpener (Handed summons) s = Unit {0}

pub record Counted (y : Yield) : Type 0 where
  pub few : length y.slips ≤ 129
  pub told : counts y.reply ≡ length y.slips
  pub opener : TellsOpener y.reply y.state

done_counted : (d : Day) (s : State) (act : Act) (number kept : ℕ) → Few d s act → Counted (keeping kept (done d s act number))
unfolding done
done_counted d s act number kept few = record { few = few; told = refl; opener = refl }

guarded_counted : {A : Type 0} (s : State) (kept : ℕ) (c : Passed A) (go : A → Outcome) →
    ((a : A) → c ≡ Ok a → Counted (keeping kept (go a))) → Counted (keeping kept (guarded s c go))
guarded_counted s kept (Err fault) go h = record { few = omega arith; told = refl; opener = tt }
guarded_counted s kept (Ok a) go h = h a refl

declining_counted : (d : Day) (s : State) (kept : ℕ) (v : Bool) → Counted (keeping kept (declining d s v))
declining_counted d s kept true = done_counted d s _ 0 kept (withdraw_few d s)
declining_counted d s kept false = record { few = omega arith; told = refl; opener = refl }

-- of any book that was reached, and any call
pub counted : (d : Day) → RankLaw d.rank → {reference reply : ℕ} (s : State) → ∥ Past reference reply s ∥₁ → (held : ℕ) (c : Call) → Counted (yields d s 129 held c)
unfolding yields
counted d L s k held (Enter e) =
    guarded_counted s held (enter_check d s 129 e) _ (λ ticket is. done_counted d _ _ ticket held (enter_few d _ _))
counted d L s k held (Cancel sender ticket) =
    guarded_counted s held (cancel_check s 129 sender ticket) _
    (λ f is. done_counted d s _ 0 held (cancel_fits_by s d L k sender ticket f (cancel_passed s 129 sender ticket f is).1))
counted d L s k held (Quoting o flagged) =
    guarded_counted s held (quote_test d s 129 o) _ (λ number is. done_counted d _ _ number held (put_few d _ _))
counted d L s k held Withdraw = guarded_counted s held (withdraw_check s 129) _ (λ u is. done_counted d s _ 0 held (withdraw_few d s))
counted d L s k held Collect = record { few = omega arith; told = refl; opener = tt }
counted d L s k held (Validate o flagged) =
    guarded_counted s _ (validate_check d s 129 held o) _ (λ u is. done_counted d s _ _ _ (put_few d s _))
counted d L s k held Decline = guarded_counted s _ (room_check 129) _ (λ u is. declining_counted d s _ (fits s held))
counted d L s k held (Clock seconds) =
    guarded_counted s held (clock_check s 129 seconds) _ (λ u is. done_counted d s _ 0 held (clock_few d s seconds))
counted d L s k held Renew = record { few = omega arith; told = refl; opener = refl }

pub read_back : (y : Yield) (paper : List Slip) → Counted y → length paper ≡ 129 → take (counts y.reply) (written y.slips paper) ≡ y.slips
read_back y paper h e =
    ap (take (counts y.reply)) (sets-eq y.slips paper 0 (omega (arith, e, h.few))) ∙ take_at y.slips _ (counts y.reply) (sym h.told)

-- an accepted call, of which the list was lent
module _ (y : Yield) (a : Answer) (h : Counted y) (is : Answered a ≡ y.reply) where
  pub told_opener : a.opener ≡ opener_of y.state.phase
  told_opener = subst (λ z. TellsOpener z y.state) (sym is) h.opener

  pub told_lines_lem : (old new : List Slip) → length old ≡ 129 → new ≡ written y.slips old → told_lines (take a.slips new) a ≡ yield_lines y
  told_lines_lem old new room wrote =
      let read : take a.slips new ≡ y.slips = ap (λ z. take (counts z) new) is ∙ ap (take (counts y.reply)) wrote ∙ read_back y old h room in
      ap (λ z. told_lines z a) read ∙ ap (λ z. reply_lines z y.slips) is
