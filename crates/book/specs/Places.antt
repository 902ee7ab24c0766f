-- One place of the table changed, a table with every place free, and what a new order is answered.
use Rattle.std.specs.Prelude.{ℕ, cond, replicate, None, Ok, Err, Result, slice_set}
use Rattle.book.specs.Firsts.{Found}
use Rattle.book.specs.Tables.{Rows, is_full, lower}
use Rattle.book.specs.declared.fault.BookFault.{BookFault}
use Rattle.book.specs.declared.fault.BookFault.TheVariants.{Full}
use Rattle.book.specs.declared.table.Table.{Table}

abbrev pub table_of : Rows → Table
table_of rows = record { rows = rows }

abbrev pub empty_table : Table
empty_table = table_of (replicate 128 None)

-- what a trade of `n` pieces leaves of an order
abbrev pub lowered : Table → Found → ℕ → Table
lowered t f n = table_of (slice_set t.rows f.place (lower n f.order))

abbrev pub blanked : Table → ℕ → Table
blanked t i = table_of (slice_set t.rows i None)

-- an order is turned down only where 128 stand
abbrev pub placed : Rows → Result (Unit {0}) BookFault
placed rows = cond (is_full rows) (Err Full) (Ok tt)
