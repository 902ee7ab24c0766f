-- Number, layer and field of each fault of this layer.
use Rattle.figures.specs.Refusals.{says}
use Rattle.figures.specs.declared.refusal.Layer.TheVariants.{Session}
use Rattle.figures.specs.declared.refusal.Refusal.{Refusal}
use Rattle.book.specs.Refusals.{book_refusal}
use Rattle.session.specs.declared.fault.SessionFault.{SessionFault}
use Rattle.session.specs.declared.fault.SessionFault.TheVariants.{ShortList, Halted, Dark, Asking, NoQuote, Summons, Reference, ReplyTime, Seconds, Book}

abbrev pub session_refusal : SessionFault → Refusal
session_refusal ShortList = says 1 Session 0
session_refusal Halted = says 3 Session 0
session_refusal Dark = says 4 Session 0
session_refusal Asking = says 12 Session 0
session_refusal NoQuote = says 13 Session 0
session_refusal Summons = says 14 Session 0
session_refusal Reference = says 15 Session 1
session_refusal ReplyTime = says 15 Session 5
session_refusal Seconds = says 16 Session 5
session_refusal (Book fault) = book_refusal fault
