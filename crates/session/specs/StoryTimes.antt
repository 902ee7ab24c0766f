-- Seconds and the dynamic price.
use Rattle.std.specs.Prelude.{◌≡◌, ℕ, ◌<◌, ◌≤◌}
use Rattle.book.specs.declared.quote.Quote.{Quote}
use Rattle.session.specs.Calls.{middle}
use Rattle.session.specs.Days.{State}
use Rattle.session.specs.Phases.{Asked, Halted, Rfe, quote_of}
use Rattle.session.specs.Stories.{Call, Enter, Cancel, Quoting, Withdraw, Collect, Validate, Decline, Clock, Renew, Reply, Refused, Answered, Handed, Event}

-- clock alone sets the seconds
abbrev pub clock_in : Call → ℕ → ℕ
clock_in (Enter e) was = was
clock_in (Cancel sender ticket) was = was
clock_in (Quoting o flagged) was = was
clock_in Withdraw was = was
clock_in Collect was = was
clock_in (Validate o flagged) was = was
clock_in Decline was = was
clock_in (Clock seconds) was = seconds
clock_in Renew was = was

-- renew alone sets the dynamic price
abbrev pub dynamic_in : Call → State → ℕ
dynamic_in (Enter e) s = s.dynamic
dynamic_in (Cancel sender ticket) s = s.dynamic
dynamic_in (Quoting o flagged) s = s.dynamic
dynamic_in Withdraw s = s.dynamic
dynamic_in Collect s = s.dynamic
dynamic_in (Validate o flagged) s = s.dynamic
dynamic_in Decline s = s.dynamic
dynamic_in (Clock seconds) s = s.dynamic
dynamic_in Renew s = middle s (quote_of s.phase)

pub record Sets (c : Call) (s s' : State) : Type 0 where
  pub clock : s'.clock ≡ clock_in c s.clock
  pub dynamic : s'.dynamic ≡ dynamic_in c s

abbrev pub SetsReply : Call → Reply → State → State → Type 0
SetsReply c (Refused fault) s s' = s' ≡ s
SetsReply c (Answered a) s s' = Sets c s s'
SetsReply c (Handed summons) s s' = Sets c s s'

abbrev pub TimedEvent : Event → Type 0
TimedEvent e = SetsReply e.call e.reply e.before e.after

-- an RFE and a halt are over at their second, and not later; a reply time is at least a second
pub record Timely (reply : ℕ) (s : State) : Type 0 where
  pub asked : 1 ≤ reply → (q : Quote) (r : Rfe) → s.phase ≡ Asked q r → s.clock < r.due
  pub halted : (until : ℕ) → s.phase ≡ Halted until → s.clock < until
