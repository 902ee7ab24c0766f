-- The lines that are written in answer.
use Rattle.std.specs.Prelude.{ℕ, ◌/◌, ◌%◌, List, [], ◌∷◌}
use Rattle.figures.specs.Refusals.{letter_of}
use Rattle.figures.specs.declared.refusal.Refusal.{Refusal}
use Rattle.book.specs.Causes.{cause_number}
use Rattle.book.specs.declared.slip.Slip.{Slip}
use Rattle.book.specs.declared.slip.Slip.TheVariants.{Trade, Out}
use Rattle.records.specs.Reading.{line}
use Rattle.records.specs.declared.line.Line.{Line}
use Rattle.session.specs.declared.answer.Answer.{Answer}
use Rattle.session.specs.declared.report.Report.{Report}
use Rattle.session.specs.Phases.{phase_letter}

-- T for a trade, G for an order that went out
abbrev pub slip_line : Slip → Line
slip_line (Trade price pieces buyer seller) = line 84 45 0 price pieces buyer seller
slip_line (Out cause ticket pieces) = line 71 45 (cause_number cause) ticket pieces 0 0

-- five digits
abbrev pub slip_count : ℕ → ℕ
slip_count slips = slips % 100000

-- A
abbrev pub answer_line : Answer → Line
answer_line a = line 65 (phase_letter a.phase) (slip_count a.slips) a.number a.dynamic a.opener 0

-- N, and the layer's letter
abbrev pub refused_line : Refusal → Line
refused_line r = line 78 (letter_of r.layer) r.number r.field 0 0 0

-- sixteen digits in two halves
abbrev pub high_half : ℕ → ℕ
high_half total = (total / 100000000) % 100000000

abbrev pub low_half : ℕ → ℕ
low_half total = total % 100000000

-- Z, and 1
abbrev pub first_totals : Report → Line
first_totals r = line 90 49 r.orders (high_half r.accepted) (low_half r.accepted) (high_half r.done) (low_half r.done)

-- Z, and 2
abbrev pub second_totals : Report → Line
second_totals r = line 90 50 0 (high_half r.out) (low_half r.out) (high_half r.left) (low_half r.left)

abbrev pub report_lines : Report → List Line
report_lines r = first_totals r ∷ second_totals r ∷ []
