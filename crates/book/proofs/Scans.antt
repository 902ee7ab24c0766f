-- A search on its way through the rows.
use Rattle.std.proofs.Common.{◌≡◌, ℕ, ◌+◌, ◌<◌, ◌≤◌, Bool, drop, length, get_or, None, Option, sym, ◌∙◌}
use Rattle.std.proofs.lemmas.List.{at_drop_more, at_drop_all}
use Rattle.book.specs.Firsts.{Found, best, looked, scan}
use Rattle.book.specs.Proposals.{Order}
use Rattle.book.specs.Tables.{Rows}

module _ (ahead : Order → Order → Bool) (ok : Order → Bool) (rows : Rows) where
  -- what was found before row `i`, and the rows from there on, give what the search finds
  abbrev pub Goes : Option Found → ℕ → Type 0
  Goes found i = scan ahead ok found i (drop i rows) ≡ best ahead ok rows

  -- one more row
  pub goes_on : (found new : Option Found) (i : ℕ) → i < length rows → new ≡ looked ahead ok found i (get_or rows i None) → Goes found i → Goes new (i + 1)
  unfolding scan
  goes_on found new i l e h = rw e (sym (at_drop_more (scan ahead ok found i) rows i None l) ∙ h)

  -- no row is left
  pub all_seen : (found : Option Found) (i : ℕ) → length rows ≤ i → Goes found i → found ≡ best ahead ok rows
  unfolding scan
  all_seen found i l h = sym (at_drop_all (scan ahead ok found i) rows i l) ∙ h
