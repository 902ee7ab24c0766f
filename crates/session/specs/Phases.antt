-- What a book is doing, and what that tells.
use Rattle.std.specs.Prelude.{ℕ, Bool, true, false, Some, None, Option}
use Rattle.book.specs.declared.quote.Quote.{Quote}
pub use Rattle.session.specs.declared.phase.Phase.{Phase}
pub use Rattle.session.specs.declared.phase.Phase.TheVariants.{Dark, Lit, Asked, Halted}
pub use Rattle.session.specs.declared.phase.PhaseKind.{PhaseKind}
use Rattle.session.specs.declared.phase.PhaseKind.TheVariants as kind
pub use Rattle.session.specs.declared.phase.Rfe.{Rfe}

abbrev pub kind_of : Phase → PhaseKind
kind_of Dark = kind.Dark
kind_of (Lit q) = kind.Lit
kind_of (Asked q r) = kind.Asked
kind_of (Halted until) = kind.Halted

-- the letter of a phase in a record: D, L, R and H
abbrev pub phase_letter : PhaseKind → ℕ
phase_letter kind.Dark = 68
phase_letter kind.Lit = 76
phase_letter kind.Asked = 82
phase_letter kind.Halted = 72

-- the quote that stands: one that is being asked does
abbrev pub quote_of : Phase → Option Quote
quote_of Dark = None
quote_of (Lit q) = Some q
quote_of (Asked q r) = Some q
quote_of (Halted until) = None

-- the opening ticket of the open RFE
abbrev pub opening_of : Phase → Option ℕ
opening_of Dark = None
opening_of (Lit q) = None
opening_of (Asked q r) = Some r.opener
opening_of (Halted until) = None

abbrev pub opener_of : Phase → ℕ
opener_of Dark = 0
opener_of (Lit q) = 0
opener_of (Asked q r) = r.opener
opener_of (Halted until) = 0

abbrev pub is_dark : Phase → Bool
is_dark Dark = true
is_dark (Lit q) = false
is_dark (Asked q r) = false
is_dark (Halted until) = false

abbrev pub is_asked : Phase → Bool
is_asked Dark = false
is_asked (Lit q) = false
is_asked (Asked q r) = true
is_asked (Halted until) = false

abbrev pub is_halted : Phase → Bool
is_halted Dark = false
is_halted (Lit q) = false
is_halted (Asked q r) = false
is_halted (Halted until) = true
