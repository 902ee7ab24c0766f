use Rattle.session.specs.Terms.{day_of}
use Rattle.session.proofs.Keeps.{put_few}
use Rattle.session.proofs.state.State.quote.Goals as goal

pub carry_out-requires-clause-few : goal.carry_out-requires-clause-few
carry_out-requires-clause-few g c = put_few (day_of g.S.Sheet.means g.R.Ranking.ranks c.args.terms.now) _ c.quote.result
