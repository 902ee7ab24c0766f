-- What the laws ask of a board before a cross; a cross leaves it so.
use Rattle.std.specs.Prelude.{◌≡◌, ℕ, ◌≤◌, true, ◌≢◌, Some, None}
use Rattle.book.specs.Proposals.{Order, Quote}
use Rattle.book.specs.Tables.{Rows, At, standing}
use Rattle.book.specs.Moves.{Board, Frame}

abbrev pub Distinct : Rows → Type 0
Distinct rows = (i j : ℕ) (o p : Order) → At rows i o → At rows j p → o.ticket ≡ p.ticket → i ≡ j

pub record SoundRows (rows : Rows) : Type 0 where
  pub distinct : Distinct rows
  -- 0 is the quote's number on a slip
  pub named : (i : ℕ) (o : Order) → At rows i o → o.ticket ≢ 0
  pub some : (i : ℕ) (o : Order) → At rows i o → 1 ≤ o.pieces
  pub few : standing rows ≤ 128

-- the quote that stands is the governing one
pub record SoundQuote (f : Frame) (rows : Rows) (q : Quote) : Type 0 where
  pub same_bid : q.bid ≡ f.bid
  pub same_ask : q.ask ≡ f.ask
  pub in_order : q.bid ≤ q.ask
  pub some_bid : 1 ≤ q.bid_pieces
  pub some_ask : 1 ≤ q.ask_pieces
  pub apart : (i : ℕ) (o : Order) → At rows i o → o.ticket ≢ q.number

pub record Sound (f : Frame) (b : Board) : Type 0 where
  pub rows : SoundRows b.table.rows
  pub quote : (q : Quote) → b.quote ≡ Some q → SoundQuote f b.table.rows q
  pub halted_dark : b.halted ≡ true → b.quote ≡ None
