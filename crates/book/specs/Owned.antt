-- The order that a sender names, where one was found.
use Rattle.std.specs.Prelude.{Some, None, Ok, Err, Option, Result}
use Rattle.book.specs.Firsts.{Found}
use Rattle.book.specs.declared.fault.BookFault.{BookFault}
use Rattle.book.specs.declared.fault.BookFault.TheVariants.{NoTicket}

abbrev pub owned_order : Option Found → Result Found BookFault
owned_order None = Err NoTicket
owned_order (Some f) = Ok f
