use Rattle.std.proofs.Common.{◌≡◌, ◌+◌, ◌*◌, ◌≤◌, drop}
use Rattle.book.specs.Tables.{standing}
use Rattle.session.specs.Closing.{held_in}
use Rattle.session.proofs.state.report.sum.Given as goal

-- what is summed, and what the rows to come have
abbrev pub invariant-loop-row : goal.invariant-loop-row
invariant-loop-row l =
    (l.orders + standing (drop l.row-index l.rows) ≡ standing l.rows)
    × (l.pieces + held_in (drop l.row-index l.rows) ≡ held_in l.rows)
    × (l.orders ≤ l.row-index)
    × (l.pieces ≤ 4294967295 * l.row-index)
