use Rattle.std.proofs.Common.{arith}
use Rattle.book.proofs.Scans.{all_seen, goes_on}
use Rattle.book.proofs.first.best.Goals as goal

pub loop-place-preserved : goal.loop-place-preserved
loop-place-preserved g c ok ahead tests compares =
    goes_on ahead ok c.args.rows.now _ _ c.loop-place.place (omega arith) (c.look.ensures ok ahead tests compares)
    (c.loop-place.invariant ok ahead tests compares)

pub returns : goal.returns
returns g c ok ahead tests compares =
    all_seen ahead ok c.args.rows.now _ c.loop-place.place (omega arith) (c.loop-place.invariant ok ahead tests compares)
