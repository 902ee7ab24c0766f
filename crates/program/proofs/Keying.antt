-- One piece after another is answered: what is written, and what the rest of the input will be answered, is the key.
use Rattle.std.proofs.Common.{◌≡◌, ℕ, ◌<◌, min, List, [], ◌∷◌, ◌++◌, length, sym, ap, ◌∙◌, append_assoc}
use Rattle.records.specs.declared.line.Line.{Line}
use Rattle.program.specs.Cuts.{pieces}
use Rattle.program.specs.Written.{written}
use Rattle.program.proofs.Cutting.{first_piece, no_piece}
use Rattle.program.proofs.Writings.{written_append}

-- what is told of the pieces to come, before a piece and after it
module _ (old new : List (List ℕ) → List Line) (key items items' rest : List ℕ) (inv : items ++ written (old (pieces rest)) ≡ key) where
  pub turned : (piece later text : List ℕ) (now : List Line) → rest ≡ piece ++ later → length piece ≡ min 40 (length rest) → 0 < length rest →
      ((ps : List (List ℕ)) → old (piece ∷ ps) ≡ now ++ new ps) → text ≡ written now → items' ≡ items ++ text →
      items' ++ written (new (pieces later)) ≡ key
  turned piece later text now e l some told wr ex =
      let after = new (pieces later) in
      let step = ap old (first_piece rest piece later e l some) ∙ told (pieces later) in
      let apart = written_append now after in
      let group = append_assoc items (written now) (written after) in
      cc

  pub finished : (text : List ℕ) (last : List Line) → length rest ≡ 0 → old [] ≡ last → text ≡ written last → items' ≡ items ++ text → items' ≡ key
  finished text last l told wr ex =
      ex ∙ ap (λ z. items ++ z) (wr ∙ ap written (sym told)) ∙ ap (λ ps. items ++ written (old ps)) (sym (no_piece rest l)) ∙ inv
