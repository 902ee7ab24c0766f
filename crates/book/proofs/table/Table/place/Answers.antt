use Rattle.std.proofs.Common.{◌≡◌, None, arith, rules}
use Rattle.std.proofs.lemmas.Bool.Decides.{nat_tests}
use Rattle.book.specs.Tables.{standing, free}
use Rattle.book.proofs.Placing.{none_free}
use Rattle.book.proofs.table.Table.place.Goals as goal

pub returns-in_err-place-clause-value : goal.returns-in_err-place-clause-value
returns-in_err-place-clause-value c =
    let e : None ≡ free c.args.self.now.rows = search rules in
    let h = none_free c.args.order c.args.self.now.rows e in
    let n : standing c.args.self.now.rows ≡ 128 = omega (arith, h.1) in
    grind (arith, nat_tests)
