use Rattle.session.specs.Stories.{Cancel, yields}
use Rattle.session.specs.Terms.{day_of}
use Rattle.session.proofs.Pasts.{bounded_by, cancel_fits_by, longer}
use Rattle.session.proofs.open_book.Book.cancel.Goals as goal

pub cancel-requires : goal.cancel-requires
cancel-requires g c =
    let s = c.args.self.now.state in
    let t = c.args.self.now.terms in
    let d = day_of g.S.Sheet.means g.R.Ranking.ranks t in
    let past = c.args.self.now.past in
    record { bounded = bounded_by s past; few = cancel_fits_by s d (g.met.R.Ranking.lawful t.ranking) past }

pub invariant_of-self : goal.invariant_of-self
unfolding yields
invariant_of-self g c =
    let b = c.args.self.now in
    record { past = longer g.S.Sheet.means g.R.Ranking.ranks g.met.S.Sheet.lawful g.met.R.Ranking.lawful b.terms b.state (Cancel c.args.sender c.args.ticket) c.args.out.now 0 _ c.cancel.ensures.state b.past }
