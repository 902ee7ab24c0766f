use Rattle.std.proofs.Common.{rules}
use Rattle.book.proofs.situation.Situation.step_a.Goals as goal

pub returns-in-Some : goal.returns-in-Some
returns-in-Some g c = search rules
