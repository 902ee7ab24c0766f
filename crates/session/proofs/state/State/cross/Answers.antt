use Rattle.session.specs.Terms.{day_of}
use Rattle.session.proofs.Crossings.{crossed_deed}
use Rattle.session.proofs.state.State.cross.Goals as goal

pub returns : goal.returns
returns g c =
    let d = day_of g.S.Sheet.means g.R.Ranking.ranks c.args.terms.now in
    crossed_deed d c.args.self.now c.args.governing c.args.stands c.args.entered c.frame-frame.result _ _ _ _ c.cross-crossed.result
    c.frame-frame.ensures c.cross-crossed.ensures.is c.phase_after-self.ensures
