-- What a call leaves standing, and how an RFE and a halt come about.
use Rattle.std.specs.Prelude.{◌≡◌, ℕ, ◌+◌, Bool, true, false, ◌||◌, ◌⊎◌, List, [], ◌∷◌, Some, None, Option}
use Rattle.book.specs.Asked as book
use Rattle.book.specs.Lowered.{KeepsQuote, LoweredQuote}
use Rattle.book.specs.Makes.{board_of}
use Rattle.book.specs.Moments.{halts, past}
use Rattle.book.specs.Tables.{Rows, place}
use Rattle.book.specs.declared.quote.Quote.{Quote}
use Rattle.book.specs.declared.slip.Slip.{Slip}
use Rattle.book.specs.declared.slip.Slip.TheVariants.{Trade, Out}
use Rattle.session.specs.Calls.{order_of, quote_from}
use Rattle.session.specs.Days.{Day, State}
use Rattle.session.specs.Phases.{Phase, Lit, Asked, Halted, Rfe, quote_of}
use Rattle.session.specs.Stories.{Call, Enter, Cancel, Quoting, Withdraw, Collect, Validate, Decline, Clock, Renew, Reply, Refused, Answered, Handed, Event}
use Rattle.session.specs.StoryCounts.{slips_of}
use Rattle.session.specs.StoryFair.{judge}
use Rattle.session.specs.declared.answer.Answer.{Answer}

-- what slips leave of the orders
abbrev pub remaining : List Slip → Rows → Rows
remaining [] rows = rows
remaining (x ∷ xs) rows = remaining xs (past x (board_of rows None false)).table.rows

-- the orders before the call, with the one that was entered
abbrev pub begun : Call → Answer → Rows → Rows
begun (Enter e) a rows = place (order_of e a.number) rows
begun (Cancel sender ticket) a rows = rows
begun (Quoting o flagged) a rows = rows
begun Withdraw a rows = rows
begun Collect a rows = rows
begun (Validate o flagged) a rows = rows
begun Decline a rows = rows
begun (Clock seconds) a rows = rows
begun Renew a rows = rows

-- the slips tell all that changed
abbrev pub LeavesReply : Call → Reply → Rows → List Slip → Rows → Type 0
LeavesReply c (Refused fault) rows slips rows' = rows' ≡ rows
LeavesReply c (Answered a) rows slips rows' = rows' ≡ remaining slips (begun c a rows)
LeavesReply c (Handed summons) rows slips rows' = rows' ≡ rows

abbrev pub LeavesEvent : Event → Type 0
LeavesEvent e = LeavesReply e.call e.reply e.before.table.rows (slips_of e) e.after.table.rows

abbrev pub is_enter : Call → Bool
is_enter (Enter e) = true
is_enter (Cancel sender ticket) = false
is_enter (Quoting o flagged) = false
is_enter Withdraw = false
is_enter Collect = false
is_enter (Validate o flagged) = false
is_enter Decline = false
is_enter (Clock seconds) = false
is_enter Renew = false

-- an enter into a lit book ended before a trade with the flagged quote: an RFE opens, due after the reply time
pub record Opens (d : Day) (c : Call) (s s' : State) (q : Quote) (r : Rfe) : Type 0 where
  pub entered : is_enter c ≡ true
  pub governing : Quote
  pub stood : s.phase ≡ Lit governing
  pub left : LoweredQuote q governing
  pub asked : book.Asked d.rank (judge d s true governing) (board_of s'.table.rows (Some q) false) r.opener
  pub due : r.due ≡ s.clock + d.reply

-- an RFE that is open went on as it was, or opened by this call
abbrev pub AsksBy : Day → Call → State → State → Type 0
AsksBy d c s s' = (q : Quote) (r : Rfe) → s'.phase ≡ Asked q r → (s.phase ≡ Asked q r) ⊎ Opens d c s s' q r

-- some slip is of an order that went out for Limit 2
abbrev pub stops : Slip → Bool
stops (Trade price pieces buyer seller) = false
stops (Out cause ticket pieces) = halts cause

abbrev pub some_stops : List Slip → Bool
some_stops [] = false
some_stops (x ∷ xs) = stops x || some_stops xs

-- a halt went on as it was, or began by this call, for 120 seconds
abbrev pub HaltsBy : State → State → List Slip → Type 0
HaltsBy s s' slips =
    (until : ℕ) → s'.phase ≡ Halted until → (s.phase ≡ Halted until) ⊎ ((some_stops slips ≡ true) × (until ≡ s'.clock + 120))

-- the quote that governs a call: the one that stood, of quote and validate the new one
abbrev pub governs : Call → Answer → State → Option Quote
governs (Enter e) a s = quote_of s.phase
governs (Cancel sender ticket) a s = quote_of s.phase
governs (Quoting o flagged) a s = Some (quote_from o flagged a.number)
governs Withdraw a s = quote_of s.phase
governs Collect a s = quote_of s.phase
governs (Validate o flagged) a s = Some (quote_from o flagged a.number)
governs Decline a s = quote_of s.phase
governs (Clock seconds) a s = quote_of s.phase
governs Renew a s = quote_of s.phase

-- a quote that stands after the call is the governing one, perhaps with fewer pieces
abbrev pub QuotesBy : Call → Reply → State → State → Type 0
QuotesBy c (Refused fault) s s' = s'.phase ≡ s.phase
QuotesBy c (Answered a) s s' = KeepsQuote (quote_of s'.phase) (governs c a s)
QuotesBy c (Handed summons) s s' = s'.phase ≡ s.phase

-- what slips leave of a quote
abbrev pub quote_left : List Slip → Option Quote → Option Quote
quote_left [] q = q
quote_left (x ∷ xs) q = quote_left xs (past x (board_of [] q false)).quote

-- withdraw, decline and clock take the quote away, or leave it
abbrev pub takes_away : Call → Bool
takes_away (Enter e) = false
takes_away (Cancel sender ticket) = false
takes_away (Quoting o flagged) = false
takes_away Withdraw = true
takes_away Collect = false
takes_away (Validate o flagged) = false
takes_away Decline = true
takes_away (Clock seconds) = true
takes_away Renew = false

-- the slips tell all that changed of the governing quote
pub record QuoteTold (c : Call) (a : Answer) (s : State) (phase : Phase) (slips : List Slip) : Type 0 where
  pub stays : takes_away c ≡ false → quote_of phase ≡ quote_left slips (governs c a s)
  pub goes : takes_away c ≡ true → (q : Quote) → quote_of phase ≡ Some q → quote_of s.phase ≡ Some q

abbrev pub ToldBy : Call → Reply → State → State → List Slip → Type 0
ToldBy c (Refused fault) s s' slips = s'.phase ≡ s.phase
ToldBy c (Answered a) s s' slips = QuoteTold c a s s'.phase slips
ToldBy c (Handed summons) s s' slips = s'.phase ≡ s.phase

pub record PhasedEvent (d : Day) (e : Event) : Type 0 where
  pub asks : AsksBy d e.call e.before e.after
  pub quotes : QuotesBy e.call e.reply e.before e.after
  pub told : ToldBy e.call e.reply e.before e.after (slips_of e)
  pub halts : HaltsBy e.before e.after (slips_of e)
