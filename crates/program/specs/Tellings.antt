-- How a response is told: the slips of an answer, then the answer; a report; a refusal.
use Rattle.std.specs.Prelude.{List, [], ◌∷◌, ◌++◌, map, take, Some, None, Ok, Err, Option, Result}
use Rattle.book.specs.declared.slip.Slip.{Slip}
use Rattle.records.specs.declared.line.Line.{Line}
use Rattle.session.specs.declared.answer.Answer.{Answer}
use Rattle.program.specs.Lines.{answer_line, refused_line, report_lines, slip_line}
use Rattle.program.specs.Refusals.{program_refusal}
use Rattle.program.specs.declared.fault.ProgramFault.{ProgramFault}
use Rattle.program.specs.declared.response.Response.{Response}
use Rattle.program.specs.declared.response.Response.TheVariants.{Told, Closed, Declined}

abbrev pub told_lines : List Slip → Answer → List Line
told_lines slips a = map slip_line slips ++ (answer_line a ∷ [])

-- of a result, and the list in which the slips stand
abbrev pub response_lines : Result Response ProgramFault → List Slip → List Line
response_lines (Ok (Told a)) paper = told_lines (take a.slips paper) a
response_lines (Ok (Closed report)) paper = report_lines report
response_lines (Ok (Declined a report)) paper = told_lines (take a.slips paper) a ++ report_lines report
response_lines (Err fault) paper = refused_line (program_refusal fault) ∷ []

-- at the end of the input nothing may be left to tell
abbrev pub parting_lines : Option Response → List Slip → List Line
parting_lines None paper = []
parting_lines (Some response) paper = response_lines (Ok response) paper
