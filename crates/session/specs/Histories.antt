-- Histories: a book's events where each one tells the sheet and ranking that it ran under.
use Rattle.std.specs.Prelude.{◌≡◌, ℕ, List, [], ◌∷◌}
use Rattle.figures.specs.Sheets.{Lawful}
use Rattle.book.specs.Ranks.{RankLaw}
use Rattle.book.specs.declared.slip.Slip.{Slip}
use Rattle.session.specs.Days.{Day, State, fresh}
use Rattle.session.specs.Stories.{Call, Event, event}

-- a lawful sheet and a lawful ranking, at a reference and a reply time
pub record LawfulDay (reference reply : ℕ) (d : Day) : Type 0 where
  pub sheet : Lawful d.means
  pub ranking : RankLaw d.rank
  pub same : d.reference ≡ reference
  pub replies : d.reply ≡ reply

pub data History (reference reply : ℕ) : List Event → State → Type 0 where
  begun : History reference reply [] (fresh reference)
  more : {es : List Event} {s : State} → History reference reply es s → (d : Day) → LawfulDay reference reply d →
      (c : Call) (paper : List Slip) (summons : ℕ) →
      History reference reply (event d s c paper summons ∷ es) (event d s c paper summons).after

-- the events behind a book
pub record Past (reference reply : ℕ) (s : State) : Type 0 where
  pub events : List Event
  pub history : History reference reply events s
