-- The bytes of lines that are written one after another.
use Rattle.std.specs.Prelude.{ℕ, List, [], ◌∷◌, ◌++◌}
use Rattle.records.specs.Writing.{bytes_of}
use Rattle.records.specs.declared.line.Line.{Line}

abbrev pub written : List Line → List ℕ
written [] = []
written (l ∷ ls) = bytes_of l ++ written ls
