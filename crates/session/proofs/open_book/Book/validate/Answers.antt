use Rattle.session.specs.Stories.{Validate, yields}
use Rattle.session.proofs.Pasts.{longer}
use Rattle.session.proofs.open_book.Book.validate.Goals as goal

pub invariant_of-self : goal.invariant_of-self
unfolding yields
invariant_of-self g c =
    let b = c.args.self.now in
    record { past = longer g.S.Sheet.means g.R.Ranking.ranks g.met.S.Sheet.lawful g.met.R.Ranking.lawful b.terms b.state (Validate c.args.quotation.offer c.args.quotation.flagged) c.args.out.now c.args.summons.now.number _ c.validate.ensures.state b.past }
