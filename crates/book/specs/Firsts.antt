-- The first, by rank or by ticket, of the orders that a search looks at.
use Rattle.std.specs.Prelude.{ℕ, ◌+◌, Bool, cond, [], ◌∷◌, is_some, Some, None, Option}
use Rattle.book.specs.Proposals.{Order, Quote}
use Rattle.book.specs.Ranks.{Rank}
use Rattle.book.specs.Picks.{Pick, Reaching, Owned, beats, earlier, picked}
use Rattle.book.specs.Tables.{Rows}
pub use Rattle.book.specs.declared.found.Found.{Found}

abbrev pub found_at : ℕ → Order → Found
found_at i o = record { place = i; order = o }

-- of two orders that pass, the one that goes before the other; the earlier place stays
abbrev pub chosen : (Order → Order → Bool) → Option Found → ℕ → Order → Option Found
chosen before None i o = Some (found_at i o)
chosen before (Some f) i o = cond (before o f.order) (Some (found_at i o)) (Some f)

-- one more row
abbrev pub looked : (Order → Order → Bool) → (Order → Bool) → Option Found → ℕ → Option Order → Option Found
looked before ok acc i None = acc
looked before ok acc i (Some o) = cond (ok o) (chosen before acc i o) acc

-- the rows from place `i` on, one after another
unfoldable pub scan : (Order → Order → Bool) → (Order → Bool) → Option Found → ℕ → Rows → Option Found
scan before ok acc i [] = acc
scan before ok acc i (r ∷ rs) = scan before ok (looked before ok acc i r) (i + 1) rs

-- of the orders that pass, the one that goes before the others
abbrev pub best : (Order → Order → Bool) → (Order → Bool) → Rows → Option Found
best before ok rows = scan before ok None 0 rows

abbrev pub first : Rank → Pick → Rows → Option Found
first rank pick rows = best (beats rank pick) (picked pick) rows

-- the order of a sender with a ticket
abbrev pub find : ℕ → ℕ → Rows → Option Found
find sender ticket rows = best earlier (picked (Owned sender ticket)) rows

-- some order of either side reaches the quote
abbrev pub is_reached : Quote → Rows → Bool
is_reached q rows = is_some (best earlier (picked (Reaching q)) rows)
