use Rattle.std.proofs.Common.{◌<◌, ◌≤◌, length, get_or, None, arith}
use Rattle.std.proofs.lemmas.List.{at_drop_all}
use Rattle.std.proofs.lemmas.List.Sums.{sum_by-drop_more}
use Rattle.book.specs.Tables.{one, standing}
use Rattle.book.proofs.RowChanges.{one_le}
use Rattle.book.proofs.table.count.Goals as goal

pub loop-row-preserved : goal.loop-row-preserved
loop-row-preserved c =
    let t : c.loop-row.row-index < length c.args.rows.now = omega arith in
    let s = sum_by-drop_more one c.args.rows.now c.loop-row.row-index None t in
    let l = one_le (get_or c.args.rows.now c.loop-row.row-index None) in
    (omega arith, omega arith)

pub returns : goal.returns
returns c =
    let t : length c.args.rows.now ≤ c.loop-row.row-index = omega arith in
    let s = at_drop_all standing c.args.rows.now c.loop-row.row-index t in
    omega arith
