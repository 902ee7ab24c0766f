-- Lines that are written one after another.
use Rattle.std.proofs.Common.{◌≡◌, ℕ, ◌+◌, ◌<◌, List, [], ◌∷◌, ◌++◌, map, length, get_or, take, sym, refl, ap, ◌∙◌, append_assoc, append-nil}
use Rattle.std.proofs.lemmas.List.{map_more}
use Rattle.book.specs.declared.slip.Slip.{Slip}
use Rattle.records.specs.Writing.{bytes_of}
use Rattle.records.specs.declared.line.Line.{Line}
use Rattle.program.specs.Lines.{slip_line}
use Rattle.program.specs.Written.{written}

pub written_append : (ls ms : List Line) → written (ls ++ ms) ≡ written ls ++ written ms
written_append [] ms = refl
written_append (l ∷ ls) ms = ap (λ (bs : List ℕ). bytes_of l ++ bs) (written_append ls ms) ∙ sym (append_assoc (bytes_of l) (written ls) (written ms))

pub written_push : (ls : List Line) (l : Line) → written (ls ++ l ∷ []) ≡ written ls ++ bytes_of l
written_push ls l = written_append ls (l ∷ []) ∙ ap (λ z. written ls ++ z) (append-nil (bytes_of l))

-- one slip more behind what stood
pub slip_more : (d : Slip) (old page new : List ℕ) (slips : List Slip) (i : ℕ) (l : Line) → i < length slips →
    page ≡ old ++ written (map slip_line (take i slips)) → new ≡ page ++ bytes_of l → l ≡ slip_line (get_or slips i d) →
    new ≡ old ++ written (map slip_line (take (i + 1) slips))
slip_more d old page new slips i l h stood put is =
    put ∙ (λ j. stood j ++ bytes_of (is j))
    ∙ append_assoc old (written (map slip_line (take i slips))) (bytes_of (slip_line (get_or slips i d)))
    ∙ ap (λ z. old ++ z) (sym (written_push (map slip_line (take i slips)) (slip_line (get_or slips i d))))
    ∙ ap (λ z. old ++ written z) (sym (map_more slip_line slips i d h))
