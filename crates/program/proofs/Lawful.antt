-- The rankings that can be chosen are lawful.
use Rattle.std.proofs.Common.{rules}
use Rattle.book.specs.Ranks.{RankLaw}
use Rattle.program.specs.Rankings.{ranking_means}
use Rattle.program.specs.declared.ranking.RankingKind.{RankingKind}
use Rattle.program.specs.declared.ranking.RankingKind.TheVariants.{ByTime, BySize}

pub ranking_lawful : (k : RankingKind) → RankLaw (ranking_means k)
ranking_lawful ByTime = search rules
ranking_lawful BySize = search rules
