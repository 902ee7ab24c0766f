-- Totals are what their three numbers are.
use Rattle.std.proofs.Common.{◌≡◌, ◌+◌, List, sum_by}
use Rattle.book.specs.declared.slip.Slip.{Slip}
use Rattle.session.specs.Calls.{done_on, out_on, tallied}
use Rattle.session.specs.Days.{Totals, totals_of}

pub totals_by : (new old : Totals) (slips : List Slip) → new.accepted ≡ old.accepted → new.done ≡ old.done + sum_by done_on slips →
    new.out ≡ old.out + sum_by out_on slips → new ≡ tallied old slips
totals_by new old slips a d o = λ i. totals_of (a i) (d i) (o i)
