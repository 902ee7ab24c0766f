use Rattle.std.proofs.Common.{false, arith, rules}
use Rattle.book.specs.Makes.{board_of}
use Rattle.book.proofs.Loops.{every_cross}
use Rattle.book.proofs.Running.{all_made, done, turned}
use Rattle.book.proofs.table.Table.cross.Goals as goal

pub returns-in-Some : goal.returns-in-Some
returns-in-Some g c =
    record {
      is = done (g.R.Ranking.ranks c.args.ranking.now) c.args.frame _ c.loop-n.n _ c.loop-n.out _ c.loop-n.self.rows _ c.loop-n.maker _ _ (omega arith) c.in-Some.ensures c.loop-n.invariant;
      lawful = every_cross (g.R.Ranking.ranks c.args.ranking.now) (g.met.R.Ranking.lawful c.args.ranking.now) c.args.frame (board_of c.args.self.now.rows c.args.quote false);
    }

pub loop-n-preserved : goal.loop-n-preserved
loop-n-preserved g c =
    turned (g.R.Ranking.ranks c.args.ranking.now) c.args.frame _ c.loop-n.n _ c.loop-n.out _ c.loop-n.self.rows _ c.loop-n.maker _
    (omega arith) (search rules) c.loop-n.invariant

pub returns : goal.returns
returns g c =
    record {
      is = all_made (g.R.Ranking.ranks c.args.ranking.now) c.args.frame _ c.loop-n.n _ _ c.loop-n.self.rows c.loop-n.maker _ (omega arith) c.end.ensures c.loop-n.invariant;
      lawful = every_cross (g.R.Ranking.ranks c.args.ranking.now) (g.met.R.Ranking.lawful c.args.ranking.now) c.args.frame (board_of c.args.self.now.rows c.args.quote false);
    }
