-- Each day is told as a story that keeps the laws.
use Rattle.std.proofs.Common.{◌≡◌, ℕ, Bool, true, false, cond, eqb, ◌≢◌, List, [], ◌∷◌, ◌++◌, is_ok, Some, None, Ok, Err, Option, sym, refl, ap, ◌∙◌, subst, append_assoc, append-nil, arith}
use Rattle.std.proofs.lemmas.Bool.{cond_both, eqb-false, eqb-true}
use Rattle.figures.specs.Prices.{in_range}
use Rattle.book.specs.Ranks.{RankLaw}
use Rattle.records.specs.declared.line.Line.{Line}
use Rattle.book.proofs.Bests.{true_false}
use Rattle.session.specs.Calls.{spent_by}
use Rattle.session.specs.Checks.{Passed}
use Rattle.session.specs.Closing.{report_of}
use Rattle.session.specs.Days.{Day}
use Rattle.session.specs.Opening.{is_reply_time, particulars_fault}
use Rattle.session.specs.Phases.{is_asked, opener_of}
use Rattle.session.specs.Stories.{Call, Collect, Decline, Event, Reply, Refused, Answered, Handed, Story, event, further, opened, yields}
use Rattle.session.specs.StoryLaws.{Replies}
use Rattle.session.specs.declared.answer.Answer.{Answer}
use Rattle.session.specs.declared.fault.SessionFault.{SessionFault}
use Rattle.session.specs.declared.fault.SessionFault.TheVariants.{Reference, ReplyTime}
use Rattle.session.specs.declared.phase.Phase.{Phase}
use Rattle.session.specs.declared.phase.Phase.TheVariants.{Dark, Lit, Asked, Halted}
use Rattle.session.specs.declared.state.State.{State}
use Rattle.session.proofs.Declines.{declined_ok}
use Rattle.session.proofs.StoriesKeep.{every_story}
use Rattle.whole_key.specs.Calls.{call_of}
use Rattle.whole_key.specs.Desks.{Standing, asked_of, begun, ended, requested, responded}
use Rattle.whole_key.specs.KeptDays.{Carries, Closes, Kept, KeptDay, Refuses, asked, day, input_ends, none, refused}
use Rattle.program.specs.Desks.{answers_by}
use Rattle.whole_key.specs.Keys.{answers}
use Rattle.program.specs.Lines.{answer_line, refused_line, report_lines}
use Rattle.program.specs.Papers.{blank_paper}
use Rattle.program.specs.Refusals.{program_refusal}
use Rattle.program.specs.Openings.{opening_answer}
use Rattle.whole_key.specs.Seats.{Seat, after, day_for, fresh_seat, makes, settled, tidied}
use Rattle.whole_key.specs.Tellings.{end_lines, reply_lines, yield_lines}
use Rattle.whole_key.specs.ToldDays.{Ended, Piece, Silent, Tells, collects, declined, declines, event_lines, nothing, plain, refusal_lines, second_opening, silent, spoken, unreadable}
use Rattle.program.specs.declared.fault.ProgramFault.{ProgramFault}
use Rattle.program.specs.declared.fault.ProgramFault.TheVariants.{Unreadable, NoDay, DayOpen, Session}
use Rattle.whole_key.specs.declared.request.Call.{Call as KeyCall}
use Rattle.program.specs.declared.opening.Opening.{Opening}
use Rattle.whole_key.specs.declared.request.Request.{Request}
use Rattle.whole_key.specs.declared.request.Request.TheVariants as request
use Rattle.whole_key.proofs.Counting.{Counted, TellsOpener, read_back}
use Rattle.whole_key.proofs.Holding.{Tidy, declined_closes, none_open, settled_tidy, stepped}
use Rattle.program.proofs.Lawful.{ranking_lawful}
use Rattle.whole_key.proofs.Tidying.{declined_still}

-- a day from its opening on: its events, what was asked, and what was told
record Runs (o : Opening) (asks : List Piece) (told : List Line) (seat : Seat) : Type 0 where
  same : seat.day ≡ day_for o
  events : List Event
  story : Story seat.day events seat.state
  carries : Carries events seat.held
  tells : Tells asks events told

module _ (o : Opening) (asks : List Piece) (told : List Line) (seat : Seat) (R : Runs o asks told seat) where
  law : RankLaw seat.day.rank
  law = subst (λ d. RankLaw d.rank) (sym R.same) (ranking_lawful o.ranking)

  opener_told : (c : Call) (r : Reply) (s s' : State) (given : ℕ) → Replies c r s s' given → TellsOpener r s'
  opener_told c (Refused fault) s s' given h = tt
  opener_told c (Answered a) s s' given h = h.0.opener
  opener_told c (Handed summons) s s' given h = tt

  counts_well : (c : Call) → Counted (makes seat c)
  counts_well c =
      let S = stepped seat.day law R.story 129 seat.held c in
      record { few = S.few; told = S.told; opener = opener_told c (makes seat c).reply seat.state (makes seat c).state seat.state.count S.replies }

  abbrev next : Call → Event
  next c = event seat.day seat.state c blank_paper seat.held

  read : (c : Call) → event_lines (next c) ≡ yield_lines (makes seat c)
  read c = ap (reply_lines (makes seat c).reply) (read_back (makes seat c) blank_paper (counts_well c) refl)

  -- one event more
  extended : (c : Call) (asks' : List Piece) (told' : List Line) → Tells asks' (next c ∷ R.events) told' → Runs o asks' told' (after seat c)
  extended c asks' told' h =
      record { same = R.same; events = next c ∷ R.events; story = further R.story c blank_paper seat.held; carries = (refl, R.carries); tells = h }

  speaks : (p : Piece) (c : KeyCall) → asked_of p ≡ Some (request.Call c) → Tidy seat →
      Runs o (asks ++ p ∷ []) (told ++ yield_lines (makes seat (call_of c))) (after seat (call_of c))
  speaks p c is tidy =
      extended (call_of c) (asks ++ p ∷ []) (told ++ yield_lines (makes seat (call_of c)))
      (subst (λ z. Tells (asks ++ p ∷ []) (next (call_of c) ∷ R.events) (told ++ z)) (read (call_of c)) (spoken R.tells p c (next (call_of c)) is (record { call = refl; held = tidy })))

  hides : (c : Call) → Silent (next c) → Runs o asks told (after seat c)
  hides c h = extended c asks told (silent R.tells (next c) h)

  kept_as : (asks' : List Piece) (told' : List Line) → Tells asks' R.events told' → Runs o asks' told' seat
  kept_as asks' told' h = record { same = R.same; events = R.events; story = R.story; carries = R.carries; tells = h }

-- ---- what the desk does after a call

still_there : (d : Day) (s : State) (held : ℕ) → (held ≡ opener_of s.phase → ⊥) → (yields d s 129 held Decline).state ≡ s
unfolding yields
still_there d s held ne = ap (λ z. z.state) (declined_still d s held ne)

module _ (o : Opening) (asks : List Piece) (told : List Line) where
  tidies : (seat : Seat) → Runs o asks told seat → Runs o asks told (tidied seat)
  tidies seat R =
      cond_both (eqb seat.held (opener_of seat.state.phase)) seat (after (after seat Decline) Collect) (Runs o asks told)
      (λ _. R)
      (λ other.
      let ne = eqb-false seat.held (opener_of seat.state.phase) other in
      let D = hides o asks told seat R Decline (declines refl (still_there seat.day seat.state seat.held ne)) in
      hides o asks told (after seat Decline) D Collect (collects refl))

  settles : (seat : Seat) (r : Reply) → Runs o asks told seat → Runs o asks told (settled r seat)
  settles seat (Refused fault) R = R
  settles seat (Answered a) R = tidies seat R
  settles seat (Handed summons) R = R

-- ---- the end of a day

spent_by_lem : (r : Passed Answer) (held : ℕ) → is_ok r ≡ true → spent_by r held ≡ 0
spent_by_lem (Ok a) held h = refl
spent_by_lem (Err fault) held h = true_false false h refl

-- a decline is never refused, so it spends the summons
spends : (seat : Seat) → (makes seat Decline).summons ≡ 0
unfolding yields
spends seat = spent_by_lem _ seat.held (declined_ok seat.day seat.state 129 seat.held (omega arith))

asked_by_lem : (p : Phase) → opener_of p ≢ 0 → is_asked p ≡ true
asked_by_lem Dark h = absurd (h refl)
asked_by_lem (Lit q) h = absurd (h refl)
asked_by_lem (Asked q r) h = refl
asked_by_lem (Halted until) h = absurd (h refl)

regroup : (a b c d : List Line) → (a ++ b) ++ (c ++ d) ≡ a ++ ((b ++ c) ++ d)
regroup a b c d = append_assoc a b (c ++ d) ∙ ap (λ z. a ++ z) (sym (append_assoc b c d))

module _ (o : Opening) (priced : in_range o.reference ≡ true) (asks : List Piece) where
  kept_day : (told : List Line) (d : Day) (s : State) (es : List Event) → d ≡ day_for o → Story d es s → Ended asks es told → Carries es 0 →
      is_asked s.phase ≡ false → KeptDay o asks told s
  kept_day told d s es same st ended spent over =
      let story = subst (λ z. Story z es s) same st in
      record {
        events = es;
        ended = ended;
        story = story;
        laws = every_story (day_for o) (ranking_lawful o.ranking) es s story;
        spent = spent;
        over = over;
      }

  module _ (first : Piece) (opens : asked_of first ≡ Some (request.Open o)) (last ps : List Piece) (closes : Closes last ps) where
    ends : (told ls : List Line) (seat : Seat) → Runs o asks told seat → Tidy seat → Kept ps ls →
        Kept (first ∷ (asks ++ (last ++ ps))) (answer_line (opening_answer o) ∷ (told ++ (end_lines seat ++ ls)))
    ends told ls seat R tidy k =
        let y = makes seat Decline in
        let L = law o asks told seat R in
        let whole : List Line → Type 0 = λ z. Kept (first ∷ (asks ++ (last ++ ps))) (answer_line (opening_answer o) ∷ z) in
        cond_both (eqb seat.held 0) (report_lines (report_of seat.state)) (yield_lines y ++ report_lines (report_of y.state)) (λ z. whole (told ++ (z ++ ls)))
        (λ z.
        let none-held = eqb-true seat.held 0 z in
        day first o opens
        (kept_day told seat.day seat.state R.events R.same R.story (plain R.tells) (subst (Carries R.events) none-held R.carries)
        (none_open seat.day L R.story (sym tidy ∙ none-held)))
        closes k)
        (λ z.
        let some : opener_of seat.state.phase ≢ 0 = λ e. eqb-false seat.held 0 z (tidy ∙ e) in
        let e = next o asks told seat R Decline in
        let D = extended o asks told seat R Decline in
        let said : Ended asks (e ∷ R.events) (told ++ yield_lines y) =
        subst (λ v. Ended asks (e ∷ R.events) (told ++ v)) (read o asks told seat R Decline)
        (declined R.tells e (record { call = refl; held = tidy }) (asked_by_lem seat.state.phase some)) in
        subst whole (regroup told (yield_lines y) (report_lines (report_of y.state)) ls)
        (day first o opens
        (kept_day (told ++ yield_lines y) seat.day y.state (e ∷ R.events) R.same (further R.story Decline blank_paper seat.held) said
        (sym (spends seat), R.carries) (declined_closes seat.day L R.story seat.held tidy))
        closes k))

-- ---- one piece after another

-- what may still be asked and written, by what stands
abbrev Holds : Standing → List Piece → List Line → Type 0
Holds None ps ls = Kept ps ls
Holds (Some seat) ps ls =
    (o : Opening) (first : Piece) (asks : List Piece) (told : List Line) → asked_of first ≡ Some (request.Open o) → in_range o.reference ≡ true →
    Runs o asks told seat → Tidy seat → Kept (first ∷ (asks ++ ps)) (answer_line (opening_answer o) ∷ (told ++ ls))

behind : (a : Line) (first p : Piece) (asks ps : List Piece) (told new ls : List Line) → Kept (first ∷ ((asks ++ p ∷ []) ++ ps)) (a ∷ ((told ++ new) ++ ls)) →
    Kept (first ∷ (asks ++ (p ∷ ps))) (a ∷ (told ++ (new ++ ls)))
behind a first p asks ps told new ls k =
    subst (λ z. Kept (first ∷ z) (a ∷ (told ++ (new ++ ls)))) (append_assoc asks (p ∷ []) ps)
    (subst (λ z. Kept (first ∷ ((asks ++ p ∷ []) ++ ps)) (a ∷ z)) (append_assoc told new ls) k)

in-range : (reference reply : ℕ) → particulars_fault reference reply ≡ None → in_range reference ≡ true
in-range reference reply h = go (in_range reference) refl h
  where
    go : (v : Bool) → in_range reference ≡ v → ◌≡◌ {A = Option SessionFault} (cond v (cond (is_reply_time reply) None (Some ReplyTime)) (Some Reference)) None → in_range reference ≡ true
    go true is k = is
    go false is k = let z : ◌≡◌ {A = ℕ} 0 1 = cc in absurd (omega arith)

fresh_runs : (o : Opening) → Runs o [] [] (fresh_seat o)
fresh_runs o = record { same = refl; events = []; story = opened; carries = refl; tells = nothing }

module _ (p : Piece) (ps : List Piece) (ls : List Line) where
  turns_down : (r : Option Request) (fault : ProgramFault) → asked_of p ≡ r → Refuses r fault → Kept ps ls → Kept (p ∷ ps) (refused_line (program_refusal fault) ∷ ls)
  turns_down r fault is h k = refused p fault (subst (λ z. Refuses z fault) (sym is) h) k

  begins : (o : Opening) → asked_of p ≡ Some (request.Open o) → (v : Option SessionFault) → particulars_fault o.reference o.reply ≡ v →
      Holds (begun o v).standing ps ls → Kept (p ∷ ps) ((begun o v).lines ++ ls)
  begins o asks (Some fault) is h = turns_down (Some (request.Open o)) (Session fault) asks (fault, is, refl) h
  begins o asks None is h = h o p [] [] asks (in-range o.reference o.reply is) (fresh_runs o) refl

  steps_on : (s : Standing) (r : Option Request) → asked_of p ≡ r → Holds (requested s r).standing ps ls → Holds s (p ∷ ps) ((requested s r).lines ++ ls)
  steps_on None None is h = turns_down None Unreadable is refl h
  steps_on None (Some (request.Open o)) is h = begins o is (particulars_fault o.reference o.reply) refl h
  steps_on None (Some (request.Call c)) is h = turns_down (Some (request.Call c)) NoDay is refl h
  steps_on None (Some request.Close) is h = turns_down (Some request.Close) NoDay is refl h
  steps_on (Some seat) None is h = λ o first asks told opens priced R tidy.
      behind (answer_line (opening_answer o)) first p asks ps told (refusal_lines Unreadable) ls
      (h o first (asks ++ p ∷ []) (told ++ refusal_lines Unreadable) opens priced (kept_as o asks told seat R _ _ (unreadable R.tells p is)) tidy)
  steps_on (Some seat) (Some (request.Open o')) is h = λ o first asks told opens priced R tidy.
      behind (answer_line (opening_answer o)) first p asks ps told (refusal_lines DayOpen) ls
      (h o first (asks ++ p ∷ []) (told ++ refusal_lines DayOpen) opens priced (kept_as o asks told seat R _ _ (second_opening R.tells p o' is)) tidy)
  steps_on (Some seat) (Some (request.Call c)) is h = λ o first asks told opens priced R tidy.
      let y = makes seat (call_of c) in
      let new = told ++ yield_lines y in
      behind (answer_line (opening_answer o)) first p asks ps told (yield_lines y) ls
      (h o first (asks ++ p ∷ []) new opens priced
      (settles o (asks ++ p ∷ []) new (after seat (call_of c)) y.reply (speaks o asks told seat R p c is tidy))
      (settled_tidy seat.day (law o asks told seat R) R.story seat.held tidy c))
  steps_on (Some seat) (Some request.Close) is h = λ o first asks told opens priced R tidy. ends o priced asks first opens (p ∷ []) ps (asked p is) told ls seat R tidy h

stops : (s : Standing) → Holds s [] (ended s)
stops None = none
stops (Some seat) = λ o first asks told opens priced R tidy.
    subst (λ z. Kept (first ∷ (asks ++ [])) (answer_line (opening_answer o) ∷ (told ++ z))) (append-nil (end_lines seat))
    (ends o priced asks first opens [] [] input_ends told [] seat R tidy none)

holds : (ps : List Piece) (s : Standing) → Holds s ps (answers s ps)
unfolding answers_by responded
holds [] s = stops s
holds (p ∷ ps) s = steps_on p ps (answers (responded s p).standing ps) s (asked_of p) refl (holds ps (responded s p).standing)

pub every_key : (ps : List Piece) → Kept ps (answers None ps)
every_key ps = holds ps None
