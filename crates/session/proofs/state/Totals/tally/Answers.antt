use Rattle.std.proofs.Common.{◌<◌, length, sum_by, refl, arith}
use Rattle.std.proofs.lemmas.List.{at_drop_all}
use Rattle.std.proofs.lemmas.List.Sums.{sum_by-drop_more}
use Rattle.book.specs.declared.slip.Slip.TheVariants.{Trade}
use Rattle.session.specs.Calls.{done_on, out_on}
use Rattle.session.proofs.Tallies.{totals_by}
use Rattle.session.proofs.state.Totals.tally.Goals as goal

pub loop-slip-init : goal.loop-slip-init
loop-slip-init c = (refl, refl, refl, omega (arith, c.requires.low.done), omega (arith, c.requires.low.out))

pub loop-slip-preserved : goal.loop-slip-preserved
loop-slip-preserved c =
    let t : c.loop-slip.slip-index < length c.args.slips.now = omega arith in
    let d = sum_by-drop_more done_on c.args.slips.now c.loop-slip.slip-index (Trade 0 0 0 0) t in
    let o = sum_by-drop_more out_on c.args.slips.now c.loop-slip.slip-index (Trade 0 0 0 0) t in
    let i = c.loop-slip.invariant in (
      i.0,
      omega (arith, d, c.done_on.ensures.is, i.1),
      omega (arith, o, c.out_on.ensures.is, i.2),
      omega (arith, c.done_on.ensures.low, i.3),
      omega (arith, c.out_on.ensures.low, i.4),
    )

pub returns : goal.returns
returns c =
    let d = at_drop_all (sum_by done_on) c.args.slips.now c.loop-slip.slip-index (omega arith) in
    let o = at_drop_all (sum_by out_on) c.args.slips.now c.loop-slip.slip-index (omega arith) in
    let i = c.loop-slip.invariant in
    totals_by c.loop-slip.self c.args.self.now c.args.slips.now i.0 (omega (arith, d, i.1)) (omega (arith, o, i.2))
