-- Whether an order or a quote is taken in, and under which number.
use Rattle.std.specs.Prelude.{ℕ, ◌+◌, cond, Ok, Err, Result, nat_le}
use Rattle.figures.specs.Checks.{Checked, order_check, quote_check}
use Rattle.figures.specs.Sheets.{Measures}
use Rattle.figures.specs.declared.offer.Offer.{Offer}
use Rattle.book.specs.Tables.{Rows, is_full}
use Rattle.book.specs.declared.fault.BookFault.{BookFault}
use Rattle.book.specs.declared.fault.BookFault.TheVariants.{Full, NumbersUsed, Figures}

abbrev pub Admitted : Type 0
Admitted = Result ℕ BookFault

-- orders and quotes share one count from 1, which ends at 1,000,000
abbrev pub numbered : ℕ → Admitted
numbered count = cond (nat_le 1000000 count) (Err NumbersUsed) (Ok (count + 1))

-- a fault of the figures comes before what this layer tests
abbrev pub checked_then : Checked → Admitted → Admitted
checked_then (Ok u) later = later
checked_then (Err fault) later = Err (Figures fault)

abbrev pub order_admitted : (ℕ → Measures) → ℕ → ℕ → ℕ → Rows → ℕ → Admitted
order_admitted means reference price pieces rows count =
    checked_then (order_check means reference price pieces) (cond (is_full rows) (Err Full) (numbered count))

abbrev pub quote_admitted : (ℕ → Measures) → ℕ → Offer → ℕ → Admitted
quote_admitted means reference offer count = checked_then (quote_check means reference offer) (numbered count)
