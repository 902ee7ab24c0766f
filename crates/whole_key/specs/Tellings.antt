-- How the reply to a call is told: its slips, then its answer; or its refusal.
use Rattle.std.specs.Prelude.{cond, List, [], ◌∷◌, ◌++◌, take, Ok, Err, ◌==◌}
use Rattle.book.specs.declared.slip.Slip.{Slip}
use Rattle.records.specs.declared.line.Line.{Line}
use Rattle.session.specs.Checks.{Passed}
use Rattle.session.specs.Closing.{report_of}
use Rattle.session.specs.Refusals.{session_refusal}
use Rattle.session.specs.Stories.{Decline, Reply, Refused, Answered, Handed, Yield}
use Rattle.session.specs.declared.answer.Answer.{Answer}
use Rattle.program.specs.Lines.{refused_line, report_lines}
use Rattle.program.specs.Tellings.{told_lines}
use Rattle.whole_key.specs.Seats.{Seat, makes}

-- no record collects
abbrev pub reply_lines : Reply → List Slip → List Line
reply_lines (Refused fault) slips = refused_line (session_refusal fault) ∷ []
reply_lines (Answered a) slips = told_lines slips a
reply_lines (Handed summons) slips = []

abbrev pub yield_lines : Yield → List Line
yield_lines y = reply_lines y.reply y.slips

-- of a result, and the list in which the slips stand
abbrev pub result_lines : Passed Answer → List Slip → List Line
result_lines (Ok a) paper = told_lines (take a.slips paper) a
result_lines (Err fault) paper = refused_line (session_refusal fault) ∷ []

-- the end of a day: a summons that is held is declined first
abbrev pub end_lines : Seat → List Line
end_lines s =
    cond (s.held == 0) (report_lines (report_of s.state))
    (yield_lines (makes s Decline) ++ report_lines (report_of (makes s Decline).state))
