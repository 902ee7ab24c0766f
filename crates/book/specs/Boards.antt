-- What a cross works on.
use Rattle.std.specs.Prelude.{Bool, Option}
use Rattle.book.specs.Proposals.{Quote}
use Rattle.book.specs.declared.table.Table.{Table}

-- the orders, the quote that stands, and whether a trade would have been beyond Limit 2: then the steps are over
pub record Board : Type 0 where
  pub table : Table
  pub quote : Option Quote
  pub halted : Bool
