-- The list of 129 places that every call is lent.
use Rattle.std.specs.Prelude.{List, replicate}
use Rattle.book.specs.declared.slip.Slip.{Slip}
use Rattle.book.specs.declared.slip.Slip.TheVariants.{Trade}

abbrev pub blank_paper : List Slip
blank_paper = replicate 129 (Trade 0 0 0 0)
