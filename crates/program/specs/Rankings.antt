-- What the chosen ranking means.
use Rattle.book.specs.Ranks.{Rank, by_size, by_time}
use Rattle.program.specs.declared.ranking.RankingKind.{RankingKind}
use Rattle.program.specs.declared.ranking.RankingKind.TheVariants.{ByTime, BySize}

abbrev pub ranking_means : RankingKind → Rank
ranking_means ByTime = by_time
ranking_means BySize = by_size
