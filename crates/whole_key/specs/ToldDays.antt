-- How the records of a day, its events and what is written belong together.
use Rattle.std.specs.Prelude.{◌≡◌, ℕ, true, List, [], ◌∷◌, ◌++◌, Some, None}
use Rattle.records.specs.declared.line.Line.{Line}
use Rattle.session.specs.Phases.{is_asked, opener_of}
use Rattle.session.specs.Stories as session
use Rattle.session.specs.Stories.{Event}
use Rattle.session.specs.StoryCounts.{slips_of}
use Rattle.whole_key.specs.Calls.{call_of}
use Rattle.whole_key.specs.Desks.{asked_of}
use Rattle.program.specs.Lines.{refused_line}
use Rattle.program.specs.Refusals.{program_refusal}
use Rattle.whole_key.specs.Tellings.{reply_lines}
use Rattle.program.specs.declared.fault.ProgramFault.{ProgramFault}
use Rattle.program.specs.declared.fault.ProgramFault.TheVariants.{Unreadable, DayOpen}
use Rattle.whole_key.specs.declared.request.Call.{Call}
use Rattle.program.specs.declared.opening.Opening.{Opening}
use Rattle.whole_key.specs.declared.request.Request.TheVariants as request

-- forty bytes of the input, or the last few
abbrev pub Piece : Type 0
Piece = List ℕ

-- an event is of this call, with the summons of the open RFE, or a blank where none is open
pub record Makes (c : session.Call) (e : Event) : Type 0 where
  pub call : e.call ≡ c
  pub held : e.held ≡ opener_of e.before.phase

-- what the desk does by itself: it collects, or declines a summons whose RFE is over
pub data Silent (e : Event) : Type 0 where
  collects : e.call ≡ session.Collect → Silent e
  declines : e.call ≡ session.Decline → e.after ≡ e.before → Silent e

-- the slips that the answer counts, then the answer; or the refusal
abbrev pub event_lines : Event → List Line
event_lines e = reply_lines e.reply (slips_of e)

abbrev pub refusal_lines : ProgramFault → List Line
refusal_lines fault = refused_line (program_refusal fault) ∷ []

-- pieces and lines in their order, events with the latest first
pub data Tells : List Piece → List Event → List Line → Type 0 where
  nothing : Tells [] [] []
  -- a record asks for a call, and the reply is written
  spoken : {ps : List Piece} {es : List Event} {ls : List Line} → Tells ps es ls →
      (p : Piece) (c : Call) (e : Event) → asked_of p ≡ Some (request.Call c) → Makes (call_of c) e → Tells (ps ++ p ∷ []) (e ∷ es) (ls ++ event_lines e)
  silent : {ps : List Piece} {es : List Event} {ls : List Line} → Tells ps es ls → (e : Event) → Silent e → Tells ps (e ∷ es) ls
  -- an unreadable piece and a second opening are refused by the program, and make no call
  unreadable : {ps : List Piece} {es : List Event} {ls : List Line} → Tells ps es ls →
      (p : Piece) → asked_of p ≡ None → Tells (ps ++ p ∷ []) es (ls ++ refusal_lines Unreadable)
  second_opening : {ps : List Piece} {es : List Event} {ls : List Line} → Tells ps es ls →
      (p : Piece) (o : Opening) → asked_of p ≡ Some (request.Open o) → Tells (ps ++ p ∷ []) es (ls ++ refusal_lines DayOpen)

-- at its end an RFE that is open is declined, and that is told too
pub data Ended : List Piece → List Event → List Line → Type 0 where
  plain : {ps : List Piece} {es : List Event} {ls : List Line} → Tells ps es ls → Ended ps es ls
  declined : {ps : List Piece} {es : List Event} {ls : List Line} → Tells ps es ls →
      (e : Event) → Makes session.Decline e → is_asked e.before.phase ≡ true → Ended ps (e ∷ es) (ls ++ event_lines e)
