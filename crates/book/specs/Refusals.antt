-- Number, layer and field of each fault of this layer.
use Rattle.figures.specs.Refusals.{figures_refusal, says}
use Rattle.figures.specs.declared.refusal.Layer.TheVariants as layer
use Rattle.figures.specs.declared.refusal.Refusal.{Refusal}
use Rattle.book.specs.declared.fault.BookFault.{BookFault}
use Rattle.book.specs.declared.fault.BookFault.TheVariants.{Full, NumbersUsed, NoTicket, Figures}

abbrev pub book_refusal : BookFault → Refusal
book_refusal Full = says 8 layer.Book 0
book_refusal NumbersUsed = says 9 layer.Book 0
book_refusal NoTicket = says 10 layer.Book 0
book_refusal (Figures f) = figures_refusal f
