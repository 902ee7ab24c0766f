use Rattle.session.specs.Terms.{day_of}
use Rattle.session.proofs.Carried.{carried, low_after}
use Rattle.session.proofs.state.State.carry_out.Goals as goal

pub tally-requires-clause-low : goal.tally-requires-clause-low
tally-requires-clause-low g c =
    low_after (day_of g.S.Sheet.means g.R.Ranking.ranks c.args.terms.now) c.args.self.now c.args.act _ _ _ _ c.act-count.ensures c.requires.low

pub returns : goal.returns
returns g c =
    carried (day_of g.S.Sheet.means g.R.Ranking.ranks c.args.terms.now) c.args.self.now c.args.act c.args.number c.requires.few
    c.act-count.new.self c.tally.new.self c.args.out.now c.act-count.new.out c.act-count.result c.answer.result
    c.requires.room c.act-count.ensures c.tally.ensures c.answer.ensures
