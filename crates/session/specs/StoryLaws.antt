-- What holds of every story.
use Rattle.std.specs.Prelude.{◌≡◌, ℕ, ◌+◌, ◌*◌, ◌≤◌, false, ◌≢◌, List, [], ◌∷◌, length, drop}
use Rattle.std.specs.List.{AllByRecursion}
use Rattle.book.specs.Quiet.{Quiet}
use Rattle.book.specs.Ranks.{RankLaw}
use Rattle.book.specs.Tables.{At, left}
use Rattle.book.specs.declared.order.Order.{Order}
use Rattle.session.specs.Calls.{number_of}
use Rattle.session.specs.Closing.{held_in}
use Rattle.session.specs.Days.{Day, State, fresh}
use Rattle.session.specs.Phases.{is_asked, kind_of, opener_of, quote_of}
use Rattle.session.specs.Histories.{History, LawfulDay}
use Rattle.session.specs.Stories.{Call, Enter, Cancel, Quoting, Withdraw, Collect, Validate, Decline, Clock, Renew, Reply, Refused, Answered, Handed, Event, Story}
use Rattle.session.specs.StoryCounts.{EnteredIn, Rising, accepted, accepted_all, counts, done_all, given_out, gone_out, out_all, traded}
use Rattle.session.specs.StoryFair.{FairEvent, PricedEvent}
use Rattle.session.specs.StoryPhases.{LeavesEvent, PhasedEvent}
use Rattle.session.specs.StoryRfes.{RfeEvent}
use Rattle.session.specs.StoryStretch.{stretch}
use Rattle.session.specs.StorySummonses.{AllSummons}
use Rattle.session.specs.StoryTimes.{TimedEvent, Timely}
use Rattle.session.specs.declared.answer.Answer.{Answer}

-- an answer tells phase, dynamic price and opening ticket of the book after the call
pub record Tells (a : Answer) (s : State) : Type 0 where
  pub phase : a.phase ≡ kind_of s.phase
  pub dynamic : a.dynamic ≡ s.dynamic
  pub opener : a.opener ≡ opener_of s.phase

-- enter and quote are answered with the next number of one count, validate with that of the quote that stood
abbrev pub Numbered : Call → Answer → State → ℕ → Type 0
Numbered (Enter e) a s given = a.number ≡ given + 1
Numbered (Cancel sender ticket) a s given = a.number ≡ 0
Numbered (Quoting o flagged) a s given = a.number ≡ given + 1
Numbered Withdraw a s given = a.number ≡ 0
Numbered Collect a s given = a.number ≡ 0
Numbered (Validate o flagged) a s given = a.number ≡ number_of (quote_of s.phase)
Numbered Decline a s given = a.number ≡ 0
Numbered (Clock seconds) a s given = a.number ≡ 0
Numbered Renew a s given = a.number ≡ 0

-- what a reply says, of books before and after and of the numbers given out before
abbrev pub Replies : Call → Reply → State → State → ℕ → Type 0
Replies c (Refused fault) s s' given = s' ≡ s
Replies c (Answered a) s s' given = Tells a s' × Numbered c a s given
Replies c (Handed summons) s s' given = Unit {0}

abbrev pub AllReply : List Event → Type 0
AllReply [] = Unit {0}
AllReply (e ∷ es) = Replies e.call e.reply e.before e.after (given_out es) × AllReply es

-- slips fill the list from its start, at most 129, and later places keep their content
pub record Writes (e : Event) : Type 0 where
  pub few : counts e.reply ≤ 129
  pub room : counts e.reply ≤ length e.old
  pub long : length e.new ≡ length e.old
  pub rest : drop (counts e.reply) e.new ≡ drop (counts e.reply) e.old

-- a refusal writes nothing
abbrev pub Spares : Reply → Event → Type 0
Spares (Refused fault) e = e.new ≡ e.old
Spares (Answered a) e = Unit {0}
Spares (Handed summons) e = Unit {0}

-- pieces of all tickets together, which stay small
pub record Sums (es : List Event) (s : State) : Type 0 where
  pub accepted : s.totals.accepted ≡ accepted_all es
  pub done : s.totals.done ≡ done_all es
  pub out : s.totals.out ≡ out_all es
  pub balance : s.totals.accepted ≡ s.totals.done + s.totals.out + held_in s.table.rows
  pub count : s.count ≡ given_out es
  pub numbers : s.count ≤ 1000000
  pub most : s.totals.accepted ≤ 10000000 * s.count

-- each call begins with the book that the last one left, the first with a fresh one
abbrev pub Chain : ℕ → List Event → State → Type 0
Chain reference [] s = s ≡ fresh reference
Chain reference (e ∷ es) s = (s ≡ e.after) × Chain reference es e.before

-- what holds whatever sheet and ranking there are
pub record Common (reference reply : ℕ) (es : List Event) (s : State) : Type 0 where
  pub chain : Chain reference es s
  -- each number is given out once, and they rise
  pub rising : Rising es
  -- every piece of a ticket is traded, gone out or left; 0 is no ticket but the quote
  pub ledger : (ticket : ℕ) → ticket ≢ 0 → accepted ticket es ≡ traded ticket es + gone_out ticket es + left ticket s.table.rows
  -- each order that stands is what was entered
  pub entered : (i : ℕ) (o : Order) → At s.table.rows i o → EnteredIn o es
  -- what stands is what the slips leave
  pub leaves : AllByRecursion LeavesEvent es
  -- outside an RFE, and outside the stretch from a halt to the next accepted quote, nothing more could trade
  pub quiet : is_asked s.phase ≡ false → stretch es ≡ false → Quiet s.table.rows (quote_of s.phase)
  -- execute-and-cancel orders stand only during an RFE
  pub brief : is_asked s.phase ≡ false → (i : ℕ) (o : Order) → At s.table.rows i o → o.brief ≡ false
  -- answers tell the book after the call; a refusal leaves book, list and summons as they were
  pub replies : AllReply es
  pub writes : AllByRecursion Writes es
  pub spares : AllByRecursion (λ e. Spares e.reply e) es
  pub summonses : AllSummons es
  -- an RFE goes on until it has to end; it and a halt are over in time
  pub rfes : AllByRecursion RfeEvent es
  pub times : AllByRecursion TimedEvent es
  pub timely : Timely reply s
  pub sums : Sums es s

pub record Laws (d : Day) (es : List Event) (s : State) : Type 0 where
  pub common : Common d.reference d.reply es s
  -- each slip is as it has to be at its moment: its price, who was first, and why an order goes out
  pub fair : AllByRecursion (FairEvent d) es
  -- each trade's price is within Limit 1
  pub prices : AllByRecursion (PricedEvent d) es
  -- an RFE or a halt has its reason
  pub phases : AllByRecursion (PhasedEvent d) es

-- whatever the sheet means, and whatever lawful ranking there is
abbrev pub EveryStory : Type 0
EveryStory = (d : Day) → RankLaw d.rank → (es : List Event) (s : State) → Story d es s → Laws d es s

-- what holds of a history: each event keeps its own day's laws
pub record HistoryLaws (reference reply : ℕ) (es : List Event) (s : State) : Type 0 where
  pub common : Common reference reply es s
  pub own : AllByRecursion (λ e. (d : Day) × LawfulDay reference reply d × FairEvent d e × PhasedEvent d e) es

abbrev pub EveryHistory : Type 0
EveryHistory = (reference reply : ℕ) (es : List Event) (s : State) → History reference reply es s → HistoryLaws reference reply es s
