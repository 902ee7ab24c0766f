-- Number, layer and field of each fault of the program.
use Rattle.figures.specs.Refusals.{says}
use Rattle.figures.specs.declared.refusal.Layer.TheVariants.{Program}
use Rattle.figures.specs.declared.refusal.Refusal.{Refusal}
use Rattle.session.specs.Refusals.{session_refusal}
use Rattle.program.specs.declared.fault.ProgramFault.{ProgramFault}
use Rattle.program.specs.declared.fault.ProgramFault.TheVariants.{Unreadable, NoDay, DayOpen, Session}

abbrev pub program_refusal : ProgramFault → Refusal
program_refusal Unreadable = says 18 Program 0
program_refusal NoDay = says 19 Program 0
program_refusal DayOpen = says 19 Program 0
program_refusal (Session e) = session_refusal e
