-- What a story gave out, accepted, traded and took out.
use Rattle.std.specs.Prelude.{◌≡◌, ℕ, ◌<◌, ◌≤◌, cond, ◌≢◌, ◌⊎◌, List, [], ◌∷◌, take, sum_by, ◌==◌}
use Rattle.std.specs.List.{AllByRecursion}
use Rattle.book.specs.Ledger.{out_by, traded_by}
use Rattle.book.specs.declared.order.Order.{Order}
use Rattle.book.specs.declared.slip.Slip.{Slip}
use Rattle.session.specs.Calls.{done_on, out_on}
use Rattle.session.specs.Stories.{Call, Enter, Cancel, Quoting, Withdraw, Collect, Validate, Decline, Clock, Renew, Reply, Refused, Answered, Handed, Event}
use Rattle.session.specs.declared.answer.Answer.{Answer}
use Rattle.session.specs.declared.entry.Entry.{Entry}

-- what an answer tells; a call without one tells 0
abbrev pub told : (Answer → ℕ) → Reply → ℕ
told tells (Refused fault) = 0
told tells (Answered a) = tells a
told tells (Handed summons) = 0

-- the slips of a call: those in its list, as counted by the answer
abbrev pub counts : Reply → ℕ
counts reply = told (λ a. a.slips) reply

abbrev pub slips_of : Event → List Slip
slips_of e = take (counts e.reply) e.new

-- ---- numbers

-- what an accepted enter or an accepted quote tells
abbrev pub by_numbered : (Answer → ℕ) → Call → Reply → ℕ
by_numbered tells (Enter e) reply = told tells reply
by_numbered tells (Cancel sender ticket) reply = 0
by_numbered tells (Quoting o flagged) reply = told tells reply
by_numbered tells Withdraw reply = 0
by_numbered tells Collect reply = 0
by_numbered tells (Validate o flagged) reply = 0
by_numbered tells Decline reply = 0
by_numbered tells (Clock seconds) reply = 0
by_numbered tells Renew reply = 0

-- the number that an event gave out, or 0
abbrev pub number_by : Call → Reply → ℕ
number_by c reply = by_numbered (λ a. a.number) c reply

-- how many numbers were given out
abbrev pub given_out : List Event → ℕ
given_out es = sum_by (λ e. by_numbered (λ _. 1) e.call e.reply) es

-- each number is given out once: it is above all before it
abbrev pub Rising : List Event → Type 0
Rising [] = Unit {0}
Rising (e ∷ es) = (number_by e.call e.reply ≢ 0 → AllByRecursion (λ x. number_by x.call x.reply < number_by e.call
    e.reply) es) × Rising es

-- ---- pieces

-- what an accepted enter tells of its entry
abbrev pub by_entered : (Entry → Answer → ℕ) → Call → Reply → ℕ
by_entered tells (Enter e) reply = told (tells e) reply
by_entered tells (Cancel sender ticket) reply = 0
by_entered tells (Quoting o flagged) reply = 0
by_entered tells Withdraw reply = 0
by_entered tells Collect reply = 0
by_entered tells (Validate o flagged) reply = 0
by_entered tells Decline reply = 0
by_entered tells (Clock seconds) reply = 0
by_entered tells Renew reply = 0

-- a ticket's accepted pieces are those of the enter answered with it
abbrev pub accepted_as : ℕ → Call → Reply → ℕ
accepted_as ticket c reply = by_entered (λ e a. cond (a.number == ticket) e.pieces 0) c reply

abbrev pub accepted : ℕ → List Event → ℕ
accepted ticket es = sum_by (λ e. accepted_as ticket e.call e.reply) es

abbrev pub traded : ℕ → List Event → ℕ
traded ticket es = sum_by (λ e. sum_by (traded_by ticket) (slips_of e)) es

abbrev pub gone_out : ℕ → List Event → ℕ
gone_out ticket es = sum_by (λ e. sum_by (out_by ticket) (slips_of e)) es

-- the same of all tickets together
abbrev pub accepted_in : Call → Reply → ℕ
accepted_in c reply = by_entered (λ e a. e.pieces) c reply

abbrev pub accepted_all : List Event → ℕ
accepted_all es = sum_by (λ e. accepted_in e.call e.reply) es

abbrev pub done_all : List Event → ℕ
done_all es = sum_by (λ e. sum_by done_on (slips_of e)) es

abbrev pub out_all : List Event → ℕ
out_all es = sum_by (λ e. sum_by out_on (slips_of e)) es

-- ---- orders

-- an order is what was entered, and the answer gave its ticket
pub record WasEntry (o : Order) (e : Entry) (a : Answer) : Type 0 where
  pub ticket : o.ticket ≡ a.number
  pub sender : o.sender ≡ e.sender
  pub side : o.side ≡ e.side
  pub price : o.price ≡ e.price
  pub brief : o.brief ≡ e.brief
  pub pieces : o.pieces ≤ e.pieces

abbrev pub WasAnswered : Order → Entry → Reply → Type 0
WasAnswered o e (Refused fault) = ⊥
WasAnswered o e (Answered a) = WasEntry o e a
WasAnswered o e (Handed summons) = ⊥

abbrev pub WasEntered : Order → Call → Reply → Type 0
WasEntered o (Enter e) reply = WasAnswered o e reply
WasEntered o (Cancel sender ticket) reply = ⊥
WasEntered o (Quoting q flagged) reply = ⊥
WasEntered o Withdraw reply = ⊥
WasEntered o Collect reply = ⊥
WasEntered o (Validate q flagged) reply = ⊥
WasEntered o Decline reply = ⊥
WasEntered o (Clock seconds) reply = ⊥
WasEntered o Renew reply = ⊥

-- some enter of the story was of this order
abbrev pub EnteredIn : Order → List Event → Type 0
EnteredIn o [] = ⊥
EnteredIn o (e ∷ es) = WasEntered o e.call e.reply ⊎ EnteredIn o es
