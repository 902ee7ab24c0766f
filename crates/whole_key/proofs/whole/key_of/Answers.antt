use Rattle.program.specs.Cuts.{pieces}
use Rattle.whole_key.proofs.Days.{every_key}
use Rattle.whole_key.proofs.whole.key_of.Goals as goal

pub returns-clause-lawful : goal.returns-clause-lawful
returns-clause-lawful c = every_key (pieces c.args.input.now)
