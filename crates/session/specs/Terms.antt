-- What the terms of a book mean, by the meaning of its sheet and of its ranking.
use Rattle.std.specs.Prelude.{ℕ}
use Rattle.figures.specs.Sheets.{Measures}
use Rattle.book.specs.Ranks.{Rank}
use Rattle.session.specs.Days.{Day}
use Rattle.session.specs.declared.terms.Terms.{Terms}

abbrev pub day_of : {S R : Type 0} → (S → ℕ → Measures) → (R → Rank) → Terms S R → Day
day_of means ranks t = record { means = means t.sheet; rank = ranks t.ranking; reference = t.particulars.reference; reply = t.particulars.reply }
