use Rattle.std.proofs.Common.{◌<◌, ◌≤◌, length, arith}
use Rattle.book.specs.Picks.{Any, Taking, Brief, beats, picked}
use Rattle.book.specs.Sides.{Buy, Sell}
use Rattle.book.proofs.Scans.{all_seen, goes_on}
use Rattle.book.proofs.survey.survey_of.Goals as goal

pub loop-place-preserved : goal.loop-place-preserved
loop-place-preserved g c =
    let rank = g.R.Ranking.ranks c.args.ranking.now in
    let rows = c.args.rows.now in
    let i = c.loop-place.place in
    let l : i < length rows = omega arith in
    let h = c.loop-place.invariant in
    let e = c.read.ensures in (
      goes_on (beats rank (Any Buy)) (picked (Any Buy)) rows _ _ i l e.buy h.0,
      goes_on (beats rank (Any Sell)) (picked (Any Sell)) rows _ _ i l e.sell h.1,
      goes_on (beats rank (Taking Buy c.args.quote)) (picked (Taking Buy c.args.quote)) rows _ _ i l e.taking_buy h.2,
      goes_on (beats rank (Taking Sell c.args.quote)) (picked (Taking Sell c.args.quote)) rows _ _ i l e.taking_sell h.3,
      goes_on (beats rank Brief) (picked Brief) rows _ _ i l e.brief h.4,
    )

pub returns : goal.returns
returns g c =
    let rank = g.R.Ranking.ranks c.args.ranking.now in
    let rows = c.args.rows.now in
    let i = c.loop-place.place in
    let l : length rows ≤ i = omega arith in
    let h = c.loop-place.invariant in
    record {
      buy = all_seen (beats rank (Any Buy)) (picked (Any Buy)) rows _ i l h.0;
      sell = all_seen (beats rank (Any Sell)) (picked (Any Sell)) rows _ i l h.1;
      taking_buy = all_seen (beats rank (Taking Buy c.args.quote)) (picked (Taking Buy c.args.quote)) rows _ i l h.2;
      taking_sell = all_seen (beats rank (Taking Sell c.args.quote)) (picked (Taking Sell c.args.quote)) rows _ i l h.3;
      brief = all_seen (beats rank Brief) (picked Brief) rows _ i l h.4;
    }
