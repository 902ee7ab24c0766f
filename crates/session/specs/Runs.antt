-- A cross in a book: what governs it, and the book afterwards.
use Rattle.std.specs.Prelude.{ℕ, ◌+◌, Bool, false, cond, List, Some, None, Option}
use Rattle.book.specs.Cross.{Run, cross}
use Rattle.book.specs.Makes.{board_of}
use Rattle.book.specs.Tables.{Rows}
use Rattle.book.specs.Boards.{Board}
use Rattle.book.specs.declared.frame.Frame.{Frame}
use Rattle.book.specs.declared.quote.Quote.{Quote}
use Rattle.book.specs.declared.slip.Slip.{Slip}
use Rattle.session.specs.Days.{Day, State}
use Rattle.session.specs.Phases.{Phase, Dark, Lit, Asked, Halted, opening_of}

-- a book and the slips that led to it
pub record Acted : Type 0 where
  pub state : State
  pub slips : List Slip

abbrev pub with_phase : State → Phase → State
with_phase s phase = record { clock = s.clock; dynamic = s.dynamic; count = s.count; collected = s.collected; totals = s.totals; phase = phase; table = s.table }

abbrev pub with_rows : State → Rows → State
with_rows s rows = record { clock = s.clock; dynamic = s.dynamic; count = s.count; collected = s.collected; totals = s.totals; phase = s.phase; table = record { rows = rows } }

-- waiting are the orders from the opening ticket of the RFE that the cross ends; Limit 2 is that of the reference
abbrev pub frame_of : Day → State → Quote → Bool → Frame
frame_of d s governing entered =
    record {
      bid = governing.bid;
      ask = governing.ask;
      opener = opening_of s.phase;
      entered = entered;
      dynamic = s.dynamic;
      limit = (d.means d.reference).limit2;
    }

abbrev pub lit_by : Option Quote → Phase
lit_by None = Dark
lit_by (Some q) = Lit q

abbrev pub asked_by : ℕ → ℕ → Option Quote → Phase
asked_by ticket due None = Dark
asked_by ticket due (Some q) = Asked q (record { opener = ticket; due = due })

-- an RFE is due after the reply time, a halt is over after 120 seconds
abbrev pub phase_by : Day → ℕ → Option ℕ → Board → Phase
phase_by d clock (Some ticket) b = asked_by ticket (clock + d.reply) b.quote
phase_by d clock None b = cond b.halted (Halted (clock + 120)) (lit_by b.quote)

abbrev pub left_by : Day → State → Run → State
left_by d s r = with_phase (with_rows s r.board.table.rows) (phase_by d s.clock r.asked r.board)

-- a cross under a governing quote, with a quote standing or none
unfoldable pub crossing : Day → State → Quote → Option Quote → Bool → Acted
crossing d s governing stands entered =
    let r = cross d.rank (frame_of d s governing entered) (board_of s.table.rows stands false) in
    record { state = left_by d s r; slips = r.slips }
