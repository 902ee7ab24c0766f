use Rattle.std.proofs.Common.{◌≡◌, ◌+◌, ◌*◌, ◌++◌, map, length, take}
use Rattle.program.specs.Lines.{slip_line}
use Rattle.program.specs.Written.{written}
use Rattle.program.proofs.page.Page.put_slips.Given as goal

abbrev pub invariant-loop-slip : goal.invariant-loop-slip
invariant-loop-slip l =
    (length l.self ≡ length l.initial.self + 40 * l.slip-index)
    × (l.self ≡ l.initial.self ++ written (map slip_line (take l.slip-index l.slips)))
