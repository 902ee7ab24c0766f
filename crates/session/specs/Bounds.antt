-- How large the numbers of a book get: its totals fit their 64 bits with room to spare.
use Rattle.std.specs.Prelude.{◌≡◌, ℕ, ◌*◌, ◌≤◌, length, Some}
use Rattle.book.specs.Firsts.{find}
use Rattle.book.specs.declared.found.Found.{Found}
use Rattle.session.specs.Acts.{Act, Cancel, acted}
use Rattle.session.specs.Days.{Day, State, Totals}

-- no order has more than 10,000,000 pieces, and no more than 1,000,000 numbers are given out
pub record Bounded (s : State) : Type 0 where
  pub count : s.count ≤ 1000000
  pub accepted : s.totals.accepted ≤ 10000000 * s.count
  pub done : s.totals.done ≤ s.totals.accepted
  pub out : s.totals.out ≤ s.totals.accepted

-- the slips of a call fit into a list with 129 places
abbrev pub Few : Day → State → Act → Type 0
Few d s act = length (acted d s act).slips ≤ 129

-- a cancel has a slip of its own; the order that it takes out has none later
abbrev pub FewCancelled : Day → State → Type 0
FewCancelled d s = (sender ticket : ℕ) (f : Found) → find sender ticket s.table.rows ≡ Some f → Few d s (Cancel f)

-- far below 2 ^ 64: the slips of one call cannot take a total over it
pub record Low (t : Totals) : Type 0 where
  pub done : t.done ≤ 10000000000000
  pub out : t.out ≤ 10000000000000
