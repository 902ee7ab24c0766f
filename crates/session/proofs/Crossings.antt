-- A cross in a book, put together from what the table did and the phase that it led to.
use Rattle.std.proofs.Common.{◌≡◌, ℕ, Bool, false, List, Option, refl, sym, ap, ◌∙◌, subst}
use Rattle.book.specs.Boards.{Board}
use Rattle.book.specs.Cross.{Did, cross}
use Rattle.book.specs.Makes.{board_of}
use Rattle.book.specs.Outcomes.{asked_for, is_halted, quote_left}
use Rattle.book.specs.Tables.{Rows}
use Rattle.book.specs.declared.crossed.Crossed.{Crossed}
use Rattle.book.specs.declared.crossed.Outcome.{Outcome}
use Rattle.book.specs.declared.crossed.Outcome.TheVariants as left
use Rattle.book.specs.declared.frame.Frame.{Frame}
use Rattle.book.specs.declared.quote.Quote.{Quote}
use Rattle.book.specs.declared.slip.Slip.{Slip}
use Rattle.session.specs.Days.{Day, State}
use Rattle.session.specs.Deeds.{Deed, phase_from}
use Rattle.session.specs.Phases.{Phase}
use Rattle.session.specs.Runs.{crossing, frame_of, phase_by, with_phase, with_rows}

-- the phase goes by what the run tells
phase_told : (d : Day) (clock : ℕ) (o : Outcome) (asked : Option ℕ) (b : Board) → asked_for o ≡ asked → quote_left o ≡ b.quote → is_halted o ≡ b.halted →
    phase_from d clock o ≡ phase_by d clock asked b
phase_told d clock left.Dark asked b a q h = rw (sym a) (rw (sym q) (rw (sym h) refl))
phase_told d clock (left.Lit x) asked b a q h = rw (sym a) (rw (sym q) (rw (sym h) refl))
phase_told d clock (left.Asked x t) asked b a q h = rw (sym a) (rw (sym q) refl)
phase_told d clock left.Halted asked b a q h = rw (sym a) (rw (sym h) refl)

module _ (d : Day) (s : State) (q : Quote) (stands : Option Quote) (entered : Bool) where
  pub crossed_deed : (f : Frame) (rows : Rows) (phase : Phase) (old new : List Slip) (a : Crossed) →
      f ≡ frame_of d s q entered → Did (cross d.rank f (board_of s.table.rows stands false)) rows old new a →
      phase ≡ phase_from d s.clock a.outcome → Deed (crossing d s q stands entered) (with_phase (with_rows s rows) phase) old new a.count
  unfolding crossing
  crossed_deed f rows phase old new a framed did p =
      let r = cross d.rank (frame_of d s q entered) (board_of s.table.rows stands false) in
      let h : Did r rows old new a = subst (λ z. Did (cross d.rank z (board_of s.table.rows stands false)) rows old new a) framed did in
      let e : phase ≡ phase_by d s.clock r.asked r.board = p ∙ phase_told d s.clock a.outcome r.asked r.board h.answer.asked h.answer.quote h.answer.halted in
      record {
        state = ap (λ z. with_phase (with_rows s z) phase) h.rows ∙ ap (with_phase (with_rows s r.board.table.rows)) e;
        slips = h.slips;
        count = h.answer.count;
      }
