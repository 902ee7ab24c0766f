use Rattle.session.proofs.Pasts.{promised_of}
use Rattle.session.proofs.open_book.Book.status.Goals as goal

pub returns-clause-lawful : goal.returns-clause-lawful
returns-clause-lawful g c =
    let b = c.args.self.now in
    promised_of g.S.Sheet.means g.R.Ranking.ranks g.met.R.Ranking.lawful b.terms b.state b.past
