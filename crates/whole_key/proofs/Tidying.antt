-- What the desk does by itself after a call.
use Rattle.std.proofs.Common.{◌≡◌, ℕ, Bool, true, false, ◌&&◌, eqb, ◌≢◌, List, [], ◌++◌, length, take, Ok, sym, refl, ap, ◌∙◌}
use Rattle.std.proofs.lemmas.Bool.{cond-false, ne_eqb}
use Rattle.book.specs.Cross.{written}
use Rattle.book.specs.declared.slip.Slip.{Slip}
use Rattle.session.specs.Calls.{Outcome, answer_of, collecting, declined, declining, guarded, summons_of}
use Rattle.session.specs.Checks.{room_check}
use Rattle.session.specs.Closing.{report_of}
use Rattle.session.specs.Days.{Day}
use Rattle.session.specs.Phases.{is_asked, opener_of}
use Rattle.session.specs.Stories.{Answered, Collect, Decline, replied, yields}
use Rattle.session.specs.declared.answer.Answer.{Answer}
use Rattle.session.specs.declared.report.Report.{Report}
use Rattle.session.specs.declared.state.State.{State}
use Rattle.program.specs.Lines.{report_lines}
use Rattle.whole_key.specs.Seats.{Seat, after, makes, tidied}
use Rattle.program.specs.Tellings.{told_lines}
use Rattle.whole_key.specs.Tellings.{end_lines, yield_lines}
use Rattle.whole_key.proofs.Counting.{Counted, told_lines_lem}

abbrev still_as : State → Outcome
still_as s = record { result = Ok (answer_of s 0 0); state = s; slips = [] }

never : (d : Day) (s : State) (v : Bool) → declining d s (v && false) ≡ still_as s
never d s true = refl
never d s false = refl

-- a summons that is not of the open RFE: nothing happens
pub declined_still : (d : Day) (s : State) (held : ℕ) → held ≢ opener_of s.phase → declined d s 129 held ≡ still_as s
declined_still d s held ne =
    ap (λ v. guarded s (room_check 129) (λ _. declining d s (is_asked s.phase && v))) (ne_eqb held (opener_of s.phase) ne) ∙ never d s (is_asked s.phase)

module _ (d : Day) (s : State) (held : ℕ) where
  abbrev before : Seat
  before = record { day = d; state = s; held = held }

  pub tidied_is : (s1 s2 : State) (h2 places : ℕ) → held ≢ opener_of s.phase → places ≡ 129 → s1 ≡ (declined d s places held).state →
      h2 ≡ summons_of s1 → s2 ≡ collecting s1 → record { day = d; state = s2; held = h2 } ≡ tidied before
  unfolding yields
  tidied_is s1 s2 h2 places ne room is hands collects =
      let split = cond-false (eqb held (opener_of s.phase)) before (after (after before Decline) Collect) (ne_eqb held (opener_of s.phase) ne) in
      let first : s1 ≡ (declined d s 129 held).state = is ∙ ap (λ n. (declined d s n held).state) room in
      let state : s2 ≡ collecting (declined d s 129 held).state = collects ∙ ap collecting first in
      let given : h2 ≡ summons_of (declined d s 129 held).state = hands ∙ ap summons_of first in
      (λ i. record { day = d; state = state i; held = given i }) ∙ sym split

  -- the day's end, where a summons is held
  pub ends : (a : Answer) (s1 : State) (old new : List Slip) (report : Report) → Counted (makes before Decline) → held ≢ 0 → length old ≡ 129 →
      Ok a ≡ (declined d s (length old) held).result → s1 ≡ (declined d s (length old) held).state → new ≡ written (declined d s (length old) held).slips old →
      report ≡ report_of s1 → told_lines (take a.slips new) a ++ report_lines report ≡ end_lines before
  unfolding yields
  ends a s1 old new report h some room result state slips closed =
      let y = makes before Decline in
      let is : Answered a ≡ y.reply = ap replied (result ∙ ap (λ n. (declined d s n held).result) room) in
      let told = told_lines_lem y a h is old new room (slips ∙ ap (λ n. written (declined d s n held).slips old) room) in
      let left : report ≡ report_of y.state = closed ∙ ap report_of (state ∙ ap (λ n. (declined d s n held).state) room) in
      (λ i. told i ++ report_lines (left i))
      ∙ sym (cond-false (eqb held 0) (report_lines (report_of s)) (yield_lines y ++ report_lines (report_of y.state)) (ne_eqb held 0 some))
