use Rattle.std.proofs.Common.{◌≡◌, ◌+◌, ◌*◌, ◌≤◌, drop, sum_by}
use Rattle.session.specs.Calls.{done_on, out_on}
use Rattle.session.proofs.state.Totals.tally.Given as goal

-- what is counted, and what the slips to come have
abbrev pub invariant-loop-slip : goal.invariant-loop-slip
invariant-loop-slip l =
    (l.self.accepted ≡ l.initial.self.accepted)
    × (l.self.done + sum_by done_on (drop l.slip-index l.slips) ≡ l.initial.self.done + sum_by done_on l.slips)
    × (l.self.out + sum_by out_on (drop l.slip-index l.slips) ≡ l.initial.self.out + sum_by out_on l.slips)
    × (l.self.done ≤ 10000000000000 + 8589934590 * l.slip-index)
    × (l.self.out ≤ 10000000000000 + 4294967295 * l.slip-index)
