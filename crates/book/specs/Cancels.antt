-- Taking a sender's order out, where one was found.
use Rattle.std.specs.Prelude.{Some, None, Option, slice_set}
use Rattle.book.specs.Firsts.{Found}
use Rattle.book.specs.Tables.{Rows}

-- the place of the order is free, and all others are as they were
abbrev pub without : Option Found → Rows → Rows
without None rows = rows
without (Some f) rows = slice_set rows f.place None
