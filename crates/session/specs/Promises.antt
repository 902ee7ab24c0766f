-- What is promised of a book in whatever state its calls have left it.
use Rattle.std.specs.Prelude.{List}
use Rattle.session.specs.Days.{Day, State}
use Rattle.session.specs.Histories.{History, Past}
use Rattle.session.specs.Stories.{Event, Story}
use Rattle.session.specs.StoryLaws.{HistoryLaws, Laws}

pub record Promised (d : Day) (s : State) : Type 0 where
  -- every story over its own sheet and ranking that leads to it keeps the laws
  pub stories : (es : List Event) → Story d es s → Laws d es s
  -- it has a history from its opening, and every one that it may have keeps them
  pub past : ∥ Past d.reference d.reply s ∥₁
  pub histories : (es : List Event) → History d.reference d.reply es s → HistoryLaws d.reference d.reply es s
