use Rattle.std.proofs.Common.{length, is_ok, ap, ◌∙◌, rules}
use Rattle.session.specs.Stories.{Decline, yields}
use Rattle.session.specs.Terms.{day_of}
use Rattle.session.proofs.Declines.{declined_ok}
use Rattle.session.proofs.Pasts.{longer}
use Rattle.session.proofs.open_book.Book.decline.Goals as goal

pub invariant_of-self : goal.invariant_of-self
unfolding yields
invariant_of-self g c =
    let b = c.args.self.now in
    record { past = longer g.S.Sheet.means g.R.Ranking.ranks g.met.S.Sheet.lawful g.met.R.Ranking.lawful b.terms b.state Decline c.args.out.now c.args.summons.now.number _ c.decline.ensures.state b.past }

pub returns-in_err-answer-clause-ok : goal.returns-in_err-answer-clause-ok
returns-in_err-answer-clause-ok g c =
    let d = day_of g.S.Sheet.means g.R.Ranking.ranks c.args.self.now.terms in
    λ room. ap is_ok (search rules) ∙ declined_ok d c.args.self.now.state (length c.args.out.now) c.args.summons.now.number room
