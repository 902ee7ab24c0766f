-- Every piece is accounted for.
use Rattle.std.specs.Prelude.{◌≡◌, ℕ, ◌+◌, cond, ◌≢◌, List, sum_by, ◌==◌}
use Rattle.book.specs.Tables.{Rows, left}
use Rattle.book.specs.Makes.{Slip, Trade, Out}

-- the pieces of a slip that a ticket traded
abbrev pub traded_by : ℕ → Slip → ℕ
traded_by t (Trade price pieces buyer seller) = cond (buyer == t) pieces 0 + cond (seller == t) pieces 0
traded_by t (Out cause ticket pieces) = 0

-- the pieces of a slip that went out under a ticket
abbrev pub out_by : ℕ → Slip → ℕ
out_by t (Trade price pieces buyer seller) = 0
out_by t (Out cause ticket pieces) = cond (ticket == t) pieces 0

-- what stood of a ticket is what it traded, what went out and what stands; 0 is no ticket but the quote
abbrev pub Ledger : Rows → List Slip → Rows → Type 0
Ledger rows slips rows' = (t : ℕ) → t ≢ 0 → left t rows ≡ sum_by (traded_by t) slips + sum_by (out_by t) slips + left t rows'
