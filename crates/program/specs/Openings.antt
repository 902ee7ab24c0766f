-- What a line opens a day with.
use Rattle.std.specs.Prelude.{ℕ, Bool, cond, Some, None, Option, ◌==◌}
use Rattle.figures.specs.declared.sheet.product.Product.{Product}
use Rattle.figures.specs.declared.sheet.product.Product.TheVariants.{Leveraged, Investment}
use Rattle.records.specs.declared.line.Line.{Line}
use Rattle.session.specs.Calls.{answer_of}
use Rattle.session.specs.Days.{fresh}
use Rattle.session.specs.declared.answer.Answer.{Answer}
use Rattle.program.specs.Unused.{empty_from_third}
use Rattle.program.specs.declared.opening.Opening.{Opening}
use Rattle.program.specs.declared.ranking.RankingKind.{RankingKind}
use Rattle.program.specs.declared.ranking.RankingKind.TheVariants.{ByTime, BySize}

abbrev pub with : {A B : Type 0} → Option A → (A → Option B) → Option B
with None f = None
with (Some a) f = f a

abbrev pub where' : {A : Type 0} → Bool → A → Option A
where' passed a = cond passed (Some a) None

-- the marks L and I
abbrev pub sheet_of : ℕ → Option Product
sheet_of mark = cond (mark == 76) (Some Leveraged) (cond (mark == 73) (Some Investment) None)

abbrev pub ranking_of : ℕ → Option RankingKind
ranking_of number = cond (number == 1) (Some ByTime) (cond (number == 2) (Some BySize) None)

-- the sheet's mark, reply time, reference, ranking
abbrev pub opening_of : Line → Option Opening
opening_of l =
    with (sheet_of l.mark) (λ sheet.
    with (ranking_of l.second) (λ ranking.
    where' (empty_from_third l)
    (record { sheet = sheet; ranking = ranking; reference = l.first; reply = l.five })))

-- the answer of a fresh book
abbrev pub opening_answer : Opening → Answer
opening_answer o = answer_of (fresh o.reference) 0 0
