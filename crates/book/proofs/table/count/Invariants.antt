use Rattle.std.proofs.Common.{◌≡◌, ◌+◌, ◌≤◌, drop}
use Rattle.book.specs.Tables.{standing}
use Rattle.book.proofs.table.count.Given as goal

-- the orders counted, and those of the rows to come
abbrev pub invariant-loop-row : goal.invariant-loop-row
invariant-loop-row l = (l.orders + standing (drop l.row-index l.rows) ≡ standing l.rows) × (l.orders ≤ l.row-index)
