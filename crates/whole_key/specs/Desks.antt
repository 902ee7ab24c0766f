-- What the desk answers to one piece of input, and what stands on it afterwards.
use Rattle.std.specs.Prelude.{ℕ, List, [], ◌∷◌, Some, None, Ok, Err, Option, Result}
use Rattle.records.specs.Reading.{line_of}
use Rattle.records.specs.declared.line.Line.{Line}
use Rattle.records.specs.declared.line.Unreadable as records
use Rattle.session.specs.Opening.{particulars_fault}
use Rattle.session.specs.Stories as session
use Rattle.session.specs.declared.fault.SessionFault.{SessionFault}
use Rattle.program.specs.Desks.{Outcome, refused}
use Rattle.program.specs.Lines.{answer_line}
use Rattle.program.specs.Openings.{opening_answer}
use Rattle.program.specs.declared.fault.ProgramFault.TheVariants.{Unreadable, NoDay, DayOpen, Session}
use Rattle.program.specs.declared.opening.Opening.{Opening}
use Rattle.whole_key.specs.Calls.{call_of}
use Rattle.whole_key.specs.Requests.{request_of}
use Rattle.whole_key.specs.Seats.{Seat, after, fresh_seat, makes, seat_of, settled}
use Rattle.whole_key.specs.Tellings.{end_lines, yield_lines}
use Rattle.whole_key.specs.declared.open_day.OpenDay.{OpenDay}
use Rattle.whole_key.specs.declared.request.Request.{Request}
use Rattle.whole_key.specs.declared.request.Request.TheVariants as request

-- the day that is open, if one is
abbrev pub Standing : Type 0
Standing = Option Seat

abbrev pub standing_of : Option OpenDay → Standing
standing_of None = None
standing_of (Some o) = Some (seat_of o)

abbrev pub begun : Opening → Option SessionFault → Outcome Standing
begun o (Some fault) = refused None (Session fault)
begun o None = record { lines = answer_line (opening_answer o) ∷ []; standing = Some (fresh_seat o) }

abbrev pub opened : Standing → Opening → Outcome Standing
opened (Some seat) o = refused (Some seat) DayOpen
opened None o = begun o (particulars_fault o.reference o.reply)

abbrev pub called : Standing → session.Call → Outcome Standing
called None c = refused None NoDay
called (Some seat) c = record { lines = yield_lines (makes seat c); standing = Some (settled (makes seat c).reply (after seat c)) }

abbrev pub closed : Standing → Outcome Standing
closed None = refused None NoDay
closed (Some seat) = record { lines = end_lines seat; standing = None }

abbrev pub request_in : Result Line records.Unreadable → Option Request
request_in (Err e) = None
request_in (Ok l) = request_of l

-- a piece that is no record, or a record that asks for nothing known, is unreadable
unfoldable pub asked_of : List ℕ → Option Request
asked_of piece = request_in (line_of piece)

abbrev pub requested : Standing → Option Request → Outcome Standing
requested s None = refused s Unreadable
requested s (Some (request.Open o)) = opened s o
requested s (Some (request.Call c)) = called s (call_of c)
requested s (Some request.Close) = closed s

unfoldable pub responded : Standing → List ℕ → Outcome Standing
responded s piece = requested s (asked_of piece)

-- at the end of the input a day that is open is closed
abbrev pub ended : Standing → List Line
ended None = []
ended (Some seat) = end_lines seat
