use Rattle.program.proofs.Cutting.{cut_evenly}
use Rattle.program.proofs.whole.cut.Goals as goal

pub returns-clause-evenly : goal.returns-clause-evenly
returns-clause-evenly c = cut_evenly c.args.input.now
