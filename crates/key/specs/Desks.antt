-- What the desk answers to one piece of input, and whether a day is open on it afterwards.
use Rattle.std.specs.Prelude.{ℕ, List, [], Some, None, Ok, Err, Option, Result}
use Rattle.records.specs.Reading.{line_of}
use Rattle.records.specs.declared.line.Line.{Line}
use Rattle.records.specs.declared.line.Unreadable as records
use Rattle.session.specs.Opening.{particulars_fault}
use Rattle.session.specs.Reports.{empty_day}
use Rattle.session.specs.declared.fault.SessionFault.{SessionFault}
use Rattle.session.specs.declared.particulars.Particulars.{Particulars}
use Rattle.program.specs.Desks as desk
use Rattle.program.specs.Lines.{report_lines}
use Rattle.program.specs.Openings.{opening_answer}
use Rattle.program.specs.Tellings.{response_lines}
use Rattle.program.specs.declared.fault.ProgramFault.{ProgramFault}
use Rattle.program.specs.declared.fault.ProgramFault.TheVariants.{Unreadable, NoDay, DayOpen, Session}
use Rattle.program.specs.declared.opening.Opening.{Opening}
use Rattle.program.specs.declared.response.Response.{Response}
use Rattle.program.specs.declared.response.Response.TheVariants.{Told, Closed}
use Rattle.key.specs.Requests.{request_of}
use Rattle.key.specs.declared.request.Request.{Request}
use Rattle.key.specs.declared.request.Request.TheVariants.{Open, Close}

-- the reference of the day that is open, if one is
abbrev pub Standing : Type 0
Standing = Option ℕ

abbrev pub reference_of : Option Particulars → Standing
reference_of None = None
reference_of (Some p) = Some p.reference

-- an answer, and what stands afterwards
pub record Outcome : Type 0 where
  pub result : Result Response ProgramFault
  pub standing : Standing

abbrev pub refused : Standing → ProgramFault → Outcome
refused s fault = record { result = Err fault; standing = s }

abbrev pub begun : Opening → Option SessionFault → Outcome
begun o (Some fault) = refused None (Session fault)
begun o None = record { result = Ok (Told (opening_answer o)); standing = Some o.reference }

abbrev pub opened : Standing → Opening → Outcome
opened (Some reference) o = refused (Some reference) DayOpen
opened None o = begun o (particulars_fault o.reference o.reply)

abbrev pub closed : Standing → Outcome
closed None = refused None NoDay
closed (Some reference) = record { result = Ok (Closed empty_day); standing = None }

abbrev pub requested : Standing → Option Request → Outcome
requested s None = refused s Unreadable
requested s (Some (Open o)) = opened s o
requested s (Some Close) = closed s

abbrev pub asked_of : Result Line records.Unreadable → Option Request
asked_of (Err e) = None
asked_of (Ok l) = request_of l

-- a piece that is no record, or a record that asks for nothing known, is unreadable
unfoldable pub responded : Standing → List ℕ → Outcome
responded s piece = requested s (asked_of (line_of piece))

-- the lines that tell an answer: it has no slips
abbrev pub told : Outcome → desk.Outcome Standing
told o = record { lines = response_lines o.result []; standing = o.standing }

-- at the end of input a day that is open is closed
abbrev pub end_lines : Standing → List Line
end_lines None = []
end_lines (Some reference) = report_lines empty_day
