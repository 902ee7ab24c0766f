-- What a call came to: its result, the book afterwards, and the list that it was lent.
use Rattle.std.specs.Prelude.{◌≡◌, List}
use Rattle.book.specs.Cross.{written}
use Rattle.book.specs.declared.slip.Slip.{Slip}
use Rattle.session.specs.Calls.{Outcome}
use Rattle.session.specs.Checks.{Passed}
use Rattle.session.specs.Days.{State}
use Rattle.session.specs.declared.answer.Answer.{Answer}

pub record Tells (o : Outcome) (r : Passed Answer) (s : State) (old new : List Slip) : Type 0 where
  pub result : r ≡ o.result
  pub state : s ≡ o.state
  pub slips : new ≡ written o.slips old
