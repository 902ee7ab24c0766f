-- What stands on the desk while a day is open: the book, and the summons that the desk holds.
use Rattle.std.specs.Prelude.{ℕ, cond, ◌==◌}
use Rattle.figures.specs.Sheets.{product}
use Rattle.program.specs.declared.opening.Opening.{Opening}
use Rattle.session.specs.Days.{Day, fresh}
use Rattle.session.specs.Phases.{opener_of}
use Rattle.session.specs.Stories.{Call, Collect, Decline, Reply, Refused, Answered, Handed, Yield, yields}
use Rattle.session.specs.Terms.{day_of}
use Rattle.session.specs.declared.state.State.{State}
use Rattle.program.specs.Rankings.{ranking_means}
use Rattle.whole_key.specs.declared.open_day.OpenDay.{OpenDay}

-- a blank summons is 0
pub record Seat : Type 0 where
  pub day : Day
  pub state : State
  pub held : ℕ

abbrev pub seat_of : OpenDay → Seat
seat_of o = record { day = day_of product ranking_means o.book.terms; state = o.book.state; held = o.summons.number }

-- the day that an opening asks for, and its fresh book
abbrev pub day_for : Opening → Day
day_for o = record { means = product o.sheet; rank = ranking_means o.ranking; reference = o.reference; reply = o.reply }

abbrev pub fresh_seat : Opening → Seat
fresh_seat o = record { day = day_for o; state = fresh o.reference; held = 0 }

-- a call with the held summons, and a list of 129 places
abbrev pub makes : Seat → Call → Yield
makes s c = yields s.day s.state 129 s.held c

abbrev pub after : Seat → Call → Seat
after s c = record { day = s.day; state = (makes s c).state; held = (makes s c).summons }

-- where the desk does not hold the summons of the open RFE, it declines what it holds, and collects
abbrev pub tidied : Seat → Seat
tidied s = cond (s.held == opener_of s.state.phase) s (after (after s Decline) Collect)

-- a refusal leaves all as it was
abbrev pub settled : Reply → Seat → Seat
settled (Refused fault) s = s
settled (Answered a) s = tidied s
settled (Handed summons) s = s
