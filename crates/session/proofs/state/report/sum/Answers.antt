use Rattle.std.proofs.Common.{◌<◌, ◌≤◌, length, None, arith}
use Rattle.std.proofs.lemmas.List.{at_drop_all}
use Rattle.std.proofs.lemmas.List.Sums.{sum_by-drop_more}
use Rattle.book.specs.Tables.{one, standing}
use Rattle.session.specs.Closing.{held_in, pieces_in}
use Rattle.session.proofs.state.report.sum.Goals as goal

pub loop-row-preserved : goal.loop-row-preserved
loop-row-preserved c =
    let t : c.loop-row.row-index < length c.args.rows.now = omega arith in
    let s = sum_by-drop_more one c.args.rows.now c.loop-row.row-index None t in
    let p = sum_by-drop_more pieces_in c.args.rows.now c.loop-row.row-index None t in
    let told = c.left_in-left.ensures in
    (omega (arith, s, told.orders), omega (arith, p, told.pieces), omega (arith, told.single), omega (arith, told.low))

pub returns : goal.returns
returns c =
    let t : length c.args.rows.now ≤ c.loop-row.row-index = omega arith in
    let s = at_drop_all standing c.args.rows.now c.loop-row.row-index t in
    let p = at_drop_all held_in c.args.rows.now c.loop-row.row-index t in
    record { orders = omega (arith, s); pieces = omega (arith, p) }
