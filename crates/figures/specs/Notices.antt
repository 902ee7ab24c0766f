-- What is wrong with the three numbers of a notice: the first that is against the law of a sheet.
use Rattle.std.specs.Prelude.{ℕ, cond, ◌||◌, Some, None, Option, nat_lt}
use Rattle.figures.specs.declared.fault.Term.TheVariants.{LimitOne, LimitTwo, Turnover}
use Rattle.figures.specs.declared.fault.FiguresFault.{FiguresFault}
use Rattle.figures.specs.declared.fault.FiguresFault.TheVariants.{Notice}

abbrev pub notice_fault : ℕ → ℕ → ℕ → Option FiguresFault
notice_fault one two most =
    cond (nat_lt 2000 one) (Some (Notice LimitOne))
    (cond (nat_lt 2000 two) (Some (Notice LimitTwo))
    (cond (nat_lt most 1 || nat_lt 10000000 most) (Some (Notice Turnover))
    None))
