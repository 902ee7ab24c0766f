-- What a key is, day for day: the telling of a story that keeps the laws.
use Rattle.std.specs.Prelude.{◌≡◌, ℕ, false, List, [], ◌∷◌, ◌++◌, Some, None, Option}
use Rattle.records.specs.declared.line.Line.{Line}
use Rattle.session.specs.Closing.{report_of}
use Rattle.session.specs.Opening.{particulars_fault}
use Rattle.session.specs.Phases.{is_asked}
use Rattle.session.specs.Stories.{Event, Story}
use Rattle.session.specs.StoryLaws.{Laws}
use Rattle.session.specs.declared.fault.SessionFault.{SessionFault}
use Rattle.session.specs.declared.state.State.{State}
use Rattle.whole_key.specs.Desks.{asked_of}
use Rattle.program.specs.Lines.{answer_line, refused_line, report_lines}
use Rattle.program.specs.Refusals.{program_refusal}
use Rattle.program.specs.Openings.{opening_answer}
use Rattle.whole_key.specs.Seats.{day_for}
use Rattle.whole_key.specs.ToldDays.{Ended, Piece}
use Rattle.program.specs.declared.fault.ProgramFault.{ProgramFault}
use Rattle.program.specs.declared.fault.ProgramFault.TheVariants.{Unreadable, NoDay, Session}
use Rattle.program.specs.declared.opening.Opening.{Opening}
use Rattle.whole_key.specs.declared.request.Request.{Request}
use Rattle.whole_key.specs.declared.request.Request.TheVariants as request

-- each call carries the summons that the one before left, the first a blank
abbrev pub Carries : List Event → ℕ → Type 0
Carries [] held = held ≡ 0
Carries (e ∷ es) held = (held ≡ e.kept) × Carries es e.held

-- a day from after its opening to its end: what was asked, what was told, and the book at last
pub record KeptDay (o : Opening) (asked : List Piece) (told : List Line) (s : State) : Type 0 where
  pub events : List Event
  pub ended : Ended asked events told
  pub story : Story (day_for o) events s
  pub laws : Laws (day_for o) events s
  -- no summons is left unspent, and no RFE open
  pub spent : Carries events 0
  pub over : is_asked s.phase ≡ false

-- a day ends with a close, or with the input
pub data Closes : List Piece → List Piece → Type 0 where
  asked : {ps : List Piece} → (p : Piece) → asked_of p ≡ Some request.Close → Closes (p ∷ []) ps
  input_ends : Closes [] []

-- how a piece is refused while no day is open
abbrev pub Refuses : Option Request → ProgramFault → Type 0
Refuses None fault = fault ≡ Unreadable
Refuses (Some (request.Open o)) fault = (f : SessionFault) × (particulars_fault o.reference o.reply ≡ Some f) × (fault ≡ Session f)
Refuses (Some (request.Call c)) fault = fault ≡ NoDay
Refuses (Some request.Close) fault = fault ≡ NoDay

-- an input's pieces, and what is written
pub data Kept : List Piece → List Line → Type 0 where
  none : Kept [] []
  refused : {ps : List Piece} {ls : List Line} → (p : Piece) (fault : ProgramFault) → Refuses (asked_of p) fault → Kept ps ls →
      Kept (p ∷ ps) (refused_line (program_refusal fault) ∷ ls)
  day : {between last ps : List Piece} {told ls : List Line} {s : State} → (p : Piece) (o : Opening) → asked_of p ≡ Some (request.Open o) →
      KeptDay o between told s → Closes last ps → Kept ps ls →
      Kept (p ∷ (between ++ (last ++ ps))) (answer_line (opening_answer o) ∷ (told ++ (report_lines (report_of s) ++ ls)))
