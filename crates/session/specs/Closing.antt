-- The report of a book: what was summed during the day, and what is left.
use Rattle.std.specs.Prelude.{ℕ, Some, None, sum_by, Option}
use Rattle.book.specs.Tables.{Rows, standing}
use Rattle.book.specs.declared.order.Order.{Order}
use Rattle.session.specs.Days.{State}
use Rattle.session.specs.declared.report.Report.{Report}

-- the pieces that stand in a row, and in the table
abbrev pub pieces_in : Option Order → ℕ
pieces_in None = 0
pieces_in (Some o) = o.pieces

abbrev pub held_in : Rows → ℕ
held_in rows = sum_by pieces_in rows

abbrev pub report_of : State → Report
report_of s =
    record {
      orders = standing s.table.rows;
      accepted = s.totals.accepted;
      done = s.totals.done;
      out = s.totals.out;
      left = held_in s.table.rows;
    }
