use Rattle.std.proofs.Common.{◌<◌, get_or, sym, ◌∙◌, arith, rules}
use Rattle.records.proofs.Digits.{low, small}
use Rattle.records.proofs.read.number_of.Goals as goal

pub overflow_mul-n : goal.overflow_mul-n
overflow_mul-n c =
    let few : c.loop-byte.n < 10000000 = small c.loop-byte.byte-index c.loop-byte.n (omega (arith, c.requires)) c.loop-byte.invariant.1 in
    search rules

pub overflow_add-n : goal.overflow_add-n
overflow_add-n c =
    let few : c.loop-byte.n < 10000000 = small c.loop-byte.byte-index c.loop-byte.n (omega (arith, c.requires)) c.loop-byte.invariant.1 in
    let digit = low (get_or c.args.digits.now c.loop-byte.byte-index 0) c.in_ok-n.field-0 (sym c.digit_of.ensures ∙ c.in_ok-n.was) in
    search rules
