-- The key of an input: each piece answered in turn.
use Rattle.std.specs.Prelude.{ℕ, List, None}
use Rattle.records.specs.declared.line.Line.{Line}
use Rattle.program.specs.Cuts.{pieces}
use Rattle.program.specs.Desks.{answers_by}
use Rattle.program.specs.Written.{written}
use Rattle.key.specs.Desks.{Standing, end_lines, responded, told}

-- what is answered to one piece after another
abbrev pub answers : Standing → List (List ℕ) → List Line
answers = answers_by (λ s piece. told (responded s piece)) end_lines

unfoldable pub key_of : List ℕ → List ℕ
key_of bytes = written (answers None (pieces bytes))
