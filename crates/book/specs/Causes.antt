-- The number of each cause for which an order goes out.
use Rattle.std.specs.Prelude.{ℕ}
pub use Rattle.book.specs.declared.slip.Cause.{Cause}
pub use Rattle.book.specs.declared.slip.Cause.TheVariants.{Cancelled, OutsideQuote, Expired, BeyondLimit}

abbrev pub cause_number : Cause → ℕ
cause_number Cancelled = 1
cause_number OutsideQuote = 2
cause_number Expired = 3
cause_number BeyondLimit = 4
