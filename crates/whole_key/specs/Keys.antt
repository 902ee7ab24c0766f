-- The key of an input: each piece answered in turn.
use Rattle.std.specs.Prelude.{ℕ, List, None}
use Rattle.records.specs.declared.line.Line.{Line}
use Rattle.program.specs.Cuts.{pieces}
use Rattle.program.specs.Desks.{answers_by}
use Rattle.program.specs.Written.{written}
use Rattle.whole_key.specs.Desks.{Standing, ended, responded}

-- what is answered to one piece after another
abbrev pub answers : Standing → List (List ℕ) → List Line
answers = answers_by responded ended

unfoldable pub key_of : List ℕ → List ℕ
key_of bytes = written (answers None (pieces bytes))
