-- What a piece of work did to a book and to the list that it was lent.
use Rattle.std.specs.Prelude.{◌≡◌, ℕ, ◌+◌, List, Some, length}
use Rattle.book.specs.Cross.{written}
use Rattle.book.specs.declared.crossed.Outcome.{Outcome}
use Rattle.book.specs.declared.crossed.Outcome.TheVariants as left
use Rattle.book.specs.declared.slip.Slip.{Slip}
use Rattle.session.specs.Days.{Day, State}
use Rattle.session.specs.Phases.{Phase, Dark, Lit, Halted}
use Rattle.session.specs.Runs.{Acted, asked_by}

-- the book is that of `a`, its slips fill the list from its start, and `n` is how many they are
pub record Deed (a : Acted) (s : State) (old new : List Slip) (n : ℕ) : Type 0 where
  pub state : s ≡ a.state
  pub slips : new ≡ written a.slips old
  pub count : n ≡ length a.slips

-- the phase after a cross, from how it left the quote: an RFE is due after the reply time, a halt lasts 120 seconds
abbrev pub phase_from : Day → ℕ → Outcome → Phase
phase_from d clock left.Dark = Dark
phase_from d clock (left.Lit q) = Lit q
phase_from d clock (left.Asked q ticket) = asked_by ticket (clock + d.reply) (Some q)
phase_from d clock left.Halted = Halted (clock + 120)
