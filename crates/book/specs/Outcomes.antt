-- How a cross leaves the Specialist's side, read as the three things that a run tells.
use Rattle.std.specs.Prelude.{ℕ, Bool, true, false, Some, None, Option}
use Rattle.book.specs.Proposals.{Quote}
pub use Rattle.book.specs.declared.crossed.Outcome.{Outcome}
pub use Rattle.book.specs.declared.crossed.Outcome.TheVariants.{Dark, Lit, Asked, Halted}

-- the quote that stands
abbrev pub quote_left : Outcome → Option Quote
quote_left Dark = None
quote_left (Lit q) = Some q
quote_left (Asked q t) = Some q
quote_left Halted = None

-- the ticket that opened an RFE
abbrev pub asked_for : Outcome → Option ℕ
asked_for Dark = None
asked_for (Lit q) = None
asked_for (Asked q t) = Some t
asked_for Halted = None

-- whether a trade would have been beyond Limit 2
abbrev pub is_halted : Outcome → Bool
is_halted Dark = false
is_halted (Lit q) = false
is_halted (Asked q t) = false
is_halted Halted = true
