use Rattle.std.proofs.Common.{◌≡◌, ℕ, ◌<◌, ◌≤◌, List, length, Ok, Result, sym, ◌∙◌, arith, ltb-false, ltb-true}
use Rattle.records.specs.Reading.{line_of}
use Rattle.records.specs.Writing.{bytes_of}
use Rattle.records.specs.declared.line.Line.{Line}
use Rattle.records.specs.declared.line.Unreadable.{Unreadable}
use Rattle.records.proofs.Digits.{apart, short}
use Rattle.records.proofs.Exact.{exact}
use Rattle.records.proofs.read.LineTryFromRefSliceU8.try_from.Goals as goal

-- both clauses from the one equation
exactly : (bytes : List ℕ) (r : Result Line Unreadable) → r ≡ line_of bytes → (l : Line) → r ≡ Ok l → bytes ≡ bytes_of l
exactly bytes r is l e = exact bytes l (sym is ∙ e)

pub returns-in-len2-up : goal.returns-in-len2-up
returns-in-len2-up c =
    let h : 2 ≤ length c.args.bytes.now = omega (arith, ltb-false) in
    let is = c.body.ensures ∙ apart c.args.bytes.now h in
    record { is = is; exact = exactly c.args.bytes.now _ is }

pub returns-in_default : goal.returns-in_default
returns-in_default c =
    let h : length c.args.bytes.now < 2 = omega (arith, ltb-true) in
    let is = sym (short c.args.bytes.now h) in
    record { is = is; exact = exactly c.args.bytes.now _ is }
