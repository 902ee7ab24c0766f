use Rattle.session.specs.Terms.{day_of}
use Rattle.session.proofs.Cancels.{cancel_asked}
use Rattle.session.proofs.state.State.act.Goals as goal

pub returns-in-Asked-Cancel : goal.returns-in-Asked-Cancel
returns-in-Asked-Cancel g c =
    cancel_asked (day_of g.S.Sheet.means g.R.Ranking.ranks c.args.terms.now) c.args.self.now c.in-Asked-Cancel.found c.in-Asked-Cancel.quote c.in-Asked-Cancel.field-1-0 c.args.act
    c.in-Asked-Cancel.is-0 c.in-Asked-Cancel.is-1 c.take_out-first.new.self c.end_unreached.new.self c.args.out.now c.take_out-first.new.out c.end_unreached.new.out
    c.take_out-first.result c.end_unreached.result c.requires c.take_out-first.ensures c.end_unreached.ensures
