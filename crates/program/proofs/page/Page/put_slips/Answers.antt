use Rattle.std.proofs.Common.{arith}
use Rattle.program.proofs.Writings.{slip_more}
use Rattle.program.proofs.page.Page.put_slips.Goals as goal

pub loop-slip-preserved : goal.loop-slip-preserved
loop-slip-preserved c = (
  omega (arith, c.put.ensures.size, c.loop-slip.invariant.0),
  slip_more _ c.args.self.now c.loop-slip.self c.put.new.self c.args.slips.now c.loop-slip.slip-index c.slip_line.result c.loop-slip-test.true
      c.loop-slip.invariant.1 c.put.ensures.text c.slip_line.ensures,
)
