use Rattle.std.proofs.Common.{Option}
use Rattle.book.specs.Firsts.{Found}
use Rattle.book.specs.Picks.{Pick, Any, Taking, Brief, beats, picked}
use Rattle.book.specs.Sides.{Buy, Sell}
use Rattle.book.proofs.Scans.{Goes}
use Rattle.book.proofs.survey.survey_of.Given as goal

abbrev pub invariant-loop-place : goal.invariant-loop-place
invariant-loop-place g l =
    let goes : Pick → Option Found → Type 0 = λ pick found. Goes (beats (g.R.Ranking.ranks l.ranking) pick) (picked pick) l.rows found l.place in
    goes (Any Buy) l.found.buy × goes (Any Sell) l.found.sell × goes (Taking Buy l.quote) l.found.taking_buy × goes (Taking Sell l.quote) l.found.taking_sell × goes Brief l.found.brief
