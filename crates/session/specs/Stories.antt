-- Stories: what was called, one call after another, from an opened book.
use Rattle.std.specs.Prelude.{ℕ, Bool, List, [], ◌∷◌, length, Ok, Err}
use Rattle.figures.specs.declared.offer.Offer.{Offer}
use Rattle.book.specs.Cross.{written}
use Rattle.book.specs.declared.slip.Slip.{Slip}
use Rattle.session.specs.Calls.{Outcome, cancelled, collecting, declined, entered, quoted, renewed, spent_by, summons_of, ticked, validated, withdrawn}
use Rattle.session.specs.Checks.{Passed}
use Rattle.session.specs.Days.{Day, State, fresh}
use Rattle.session.specs.declared.answer.Answer.{Answer}
use Rattle.session.specs.declared.entry.Entry.{Entry}
use Rattle.session.specs.declared.fault.SessionFault.{SessionFault}

-- the nine calls, with any arguments
pub data Call : Type 0 where
  Enter : Entry → Call
  -- sender and ticket
  Cancel : ℕ → ℕ → Call
  -- bid and ask with their pieces, and whether it is flagged
  Quoting : Offer → Bool → Call
  Withdraw : Call
  Collect : Call
  Validate : Offer → Bool → Call
  Decline : Call
  -- seconds
  Clock : ℕ → Call
  Renew : Call

-- a refusal, an answer, or the summons that collect hands over
pub data Reply : Type 0 where
  Refused : SessionFault → Reply
  Answered : Answer → Reply
  Handed : ℕ → Reply

-- what a call yields: its reply, and book, slips and summons afterwards
pub record Yield : Type 0 where
  pub reply : Reply
  pub state : State
  pub slips : List Slip
  pub summons : ℕ

abbrev pub replied : Passed Answer → Reply
replied (Ok a) = Answered a
replied (Err fault) = Refused fault

-- a call that leaves the caller's summons alone, and one that may spend it
abbrev pub keeping : ℕ → Outcome → Yield
keeping summons o = record { reply = replied o.result; state = o.state; slips = o.slips; summons = summons }

abbrev pub spending : ℕ → Outcome → Yield
spending summons o = keeping (spent_by o.result summons) o

abbrev pub handing : State → Yield
handing s = record { reply = Handed (summons_of s); state = collecting s; slips = []; summons = summons_of s }

-- of a book, a list of so many places and a summons
unfoldable pub yields : Day → State → ℕ → ℕ → Call → Yield
yields d s places summons (Enter e) = keeping summons (entered d s places e)
yields d s places summons (Cancel sender ticket) = keeping summons (cancelled d s places sender ticket)
yields d s places summons (Quoting o flagged) = keeping summons (quoted d s places o flagged)
yields d s places summons Withdraw = keeping summons (withdrawn d s places)
yields d s places summons Collect = handing s
yields d s places summons (Validate o flagged) = spending summons (validated d s places summons o flagged)
yields d s places summons Decline = spending summons (declined d s places summons)
yields d s places summons (Clock seconds) = keeping summons (ticked d s places seconds)
yields d s places summons Renew = keeping summons (renewed s)

-- a call and its reply, with book, list and summons before and after it
pub record Event : Type 0 where
  pub call : Call
  pub reply : Reply
  pub before : State
  pub after : State
  pub old : List Slip
  pub new : List Slip
  pub held : ℕ
  pub kept : ℕ

abbrev pub event_of : Call → State → List Slip → ℕ → Yield → Event
event_of c s paper summons y =
    record {
      call = c;
      reply = y.reply;
      before = s;
      after = y.state;
      old = paper;
      new = written y.slips paper;
      held = summons;
      kept = y.summons;
    }

abbrev pub event : Day → State → Call → List Slip → ℕ → Event
event d s c paper summons = event_of c s paper summons (yields d s (length paper) summons c)

-- the latest event first, and the book after it
pub data Story (d : Day) : List Event → State → Type 0 where
  opened : Story d [] (fresh d.reference)
  further : {es : List Event} {s : State} → Story d es s → (c : Call) (paper : List Slip) (summons : ℕ) →
      Story d (event d s c paper summons ∷ es) (event d s c paper summons).after
