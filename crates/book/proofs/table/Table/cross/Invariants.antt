use Rattle.std.proofs.Common.{◌-◌, false}
use Rattle.book.specs.Cross.{cross, work}
use Rattle.book.specs.Makers.{board_with}
use Rattle.book.specs.Makes.{board_of}
use Rattle.book.proofs.Running.{Going}
use Rattle.book.proofs.table.Table.cross.Given as goal

abbrev pub invariant-loop-n : goal.invariant-loop-n
invariant-loop-n g l =
    Going (cross (g.R.Ranking.ranks l.ranking) l.frame (board_of l.initial.self.rows l.fn.quote false))
    (work (g.R.Ranking.ranks l.ranking) l.frame (129 - l.n) (board_with l.self.rows l.maker)) l.n l.initial.out l.out
