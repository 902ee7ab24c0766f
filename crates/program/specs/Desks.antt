-- What a desk answers to one piece of input after another, by what it answers to one.
use Rattle.std.specs.Prelude.{ℕ, List, [], ◌∷◌, ◌++◌}
use Rattle.records.specs.declared.line.Line.{Line}
use Rattle.program.specs.Lines.{refused_line}
use Rattle.program.specs.Refusals.{program_refusal}
use Rattle.program.specs.declared.fault.ProgramFault.{ProgramFault}

-- what is written, and what stands on the desk afterwards
pub record Outcome (S : Type 0) : Type 0 where
  pub lines : List Line
  pub standing : S

abbrev pub refused : {S : Type 0} → S → ProgramFault → Outcome S
refused s fault = record { lines = refused_line (program_refusal fault) ∷ []; standing = s }

-- to the end of the input, where something may still be written
unfoldable pub answers_by : {S : Type 0} → (S → List ℕ → Outcome S) → (S → List Line) → S → List (List ℕ) → List Line
answers_by responded ended s [] = ended s
answers_by responded ended s (p ∷ ps) = let o = responded s p in o.lines ++ answers_by responded ended o.standing ps
