use Rattle.std.proofs.Common.{[]}
use Rattle.session.specs.Stories.{Renew, yields}
use Rattle.session.proofs.Pasts.{longer}
use Rattle.session.proofs.open_book.Book.renew.Goals as goal

pub invariant_of-self : goal.invariant_of-self
unfolding yields
invariant_of-self g c =
    let b = c.args.self.now in
    record { past = longer g.S.Sheet.means g.R.Ranking.ranks g.met.S.Sheet.lawful g.met.R.Ranking.lawful b.terms b.state Renew [] 0 _ c.renew.ensures.after b.past }
