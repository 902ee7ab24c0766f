-- A cross on its way: what is done of it, and what is still to do.
use Rattle.std.proofs.Common.{◌≡◌, ℕ, suc, ◌+◌, ◌-◌, ◌<◌, List, [], ◌∷◌, length, set, Some, None, Option, sym, refl, ap, ◌∙◌, subst, arith}
use lib.Seq.{sets}
use Rattle.book.specs.Causes.{BeyondLimit}
use Rattle.book.specs.Ranks.{Rank}
use Rattle.book.specs.Moves.{Board, Frame, Move, Stop, Ask, Deal, Strike, Halt, next}
use Rattle.book.specs.Makes.{Slip, after, slip, traded, gone}
use Rattle.book.specs.Cross.{Crossed, Run, Did, Tells, work, onwards, written, ended, before}
use Rattle.book.specs.Makers.{Maker, Gone, Stands, Halted, board_with, is_halted, quote_of}
use Rattle.book.specs.Tables.{Rows}
use Rattle.book.specs.Turns.{Turned, end_of, end_with}
use Rattle.book.proofs.Bests.{none_some}
use Rattle.book.proofs.Asking.{Stood, next_stood}

-- `rest` is what is still to do of `all`, after `n` slips
pub record Going (all rest : Run) (n : ℕ) (old now : List Slip) : Type 0 where
  pub board : rest.board ≡ all.board
  pub asked : rest.asked ≡ all.asked
  pub count : n + length rest.slips ≡ length all.slips
  pub slips : sets now n rest.slips ≡ written all.slips old

-- only a quote that stands is asked about
abbrev Fits : Maker → Option ℕ → Type 0
Fits m None = Unit {0}
Fits (Stands q) (Some t) = Unit {0}
Fits Gone (Some t) = ⊥
Fits Halted (Some t) = ⊥

fits : (rows : Rows) (m : Maker) (t : ℕ) → Stood (board_with rows m) (Ask t) → Fits m (Some t)
fits rows Gone t h = none_some h.1 h.2
fits rows (Stands q) t h = tt
fits rows Halted t h = none_some h.1 h.2

tells : (n : ℕ) (m : Maker) (asked : Option ℕ) (r : Run) → Fits m asked → n ≡ length r.slips → asked ≡ r.asked →
    quote_of m ≡ r.board.quote → is_halted m ≡ r.board.halted → Tells (end_with n asked m) r
tells n Gone None r k c a q h = record { count = c; asked = a; quote = q; halted = h }
tells n Gone (Some t) r k c a q h = absurd k
tells n (Stands x) None r k c a q h = record { count = c; asked = a; quote = q; halted = h }
tells n (Stands x) (Some t) r k c a q h = record { count = c; asked = a; quote = q; halted = h }
tells n Halted None r k c a q h = record { count = c; asked = a; quote = q; halted = h }
tells n Halted (Some t) r k c a q h = absurd k

-- nothing is left to do
over : (all rest : Run) (n : ℕ) (old now : List Slip) (rows : Rows) (m : Maker) (asked : Option ℕ) → Fits m asked →
    Going all rest n old now → rest ≡ ended (board_with rows m) asked → Did all rows old now (end_with n asked m)
over all rest n old now rows m asked k h e =
    let none : length rest.slips ≡ 0 = ap (λ z. length z.slips) e in
    let b : board_with rows m ≡ all.board = sym (ap (λ z. z.board) e) ∙ h.board in
    record {
      rows = ap (λ z. z.table.rows) b;
      slips = sym (ap (λ z. sets now n z.slips) e) ∙ h.slips;
      answer = tells n m asked all k (omega (arith, h.count, none)) (sym (ap (λ z. z.asked) e) ∙ h.asked)
          (ap (λ z. z.quote) b) (ap (λ z. z.halted) b);
    }

-- one more slip
again : (all rest more : Run) (n : ℕ) (old now : List Slip) (s : Slip) → Going all rest n old now → rest ≡ before (s ∷ []) more → Going all more (n + 1) old (set now n s)
again all rest more n old now s h e =
    let k : length rest.slips ≡ suc (length more.slips) = ap (λ z. length z.slips) e in
    let j : n + 1 ≡ suc n = omega arith in
    record {
      board = sym (ap (λ z. z.board) e) ∙ h.board;
      asked = sym (ap (λ z. z.asked) e) ∙ h.asked;
      count = omega (arith, h.count, k);
      slips = ap (λ z. sets (set now n s) z more.slips) j ∙ sym (ap (λ z. sets now n z.slips) e) ∙ h.slips;
    }

-- a move that ends the cross leaves all as it is
ends_by : (v : Move) (n : ℕ) (rows : Rows) (m : Maker) (a : Crossed) → Stood (board_with rows m) v → Some a ≡ end_of v n m →
    (asked : Option ℕ) × (a ≡ end_with n asked m) × Fits m asked × (slip v ≡ []) × (after v (board_with rows m) ≡ board_with rows m)
    × ((r : Run) → onwards v (board_with rows m) r ≡ ended (board_with rows m) asked)
ends_by Stop n rows m a h e = (None, cc, tt, refl, refl, λ r. refl)
ends_by (Ask t) n rows m a h e = (Some t, cc, fits rows m t h, refl, refl, λ r. refl)
ends_by (Deal x y p q) n rows m a h e = none_some a (sym e)
ends_by (Strike c f) n rows m a h e = none_some a (sym e)
ends_by (Halt f) n rows m a h e = none_some a (sym e)

-- any other has one slip, and the rest follows
onwards_by : (v : Move) (n : ℕ) (m : Maker) → None ≡ end_of v n m → (s : Slip) × (slip v ≡ s ∷ []) × ((b : Board) (r : Run) → onwards v b r ≡ before (s ∷ []) r)
onwards_by Stop n m e = none_some _ e
onwards_by (Ask t) n m e = none_some _ e
onwards_by (Deal x y p k) n m e = (traded x y p k, refl, λ b r. refl)
onwards_by (Strike c f) n m e = (gone c f, refl, λ b r. refl)
onwards_by (Halt f) n m e = (gone BeyondLimit f, refl, λ b r. refl)

module _ (rank : Rank) (f : Frame) where
  work_more : (n : ℕ) (b : Board) → n < 129 → work rank f (129 - n) b ≡ onwards (next rank f b) b (work rank f (129 - (n + 1)) (after (next rank f b) b))
  unfolding work
  work_more n b l =
      let k : 129 - n ≡ suc (129 - (n + 1)) = omega arith in
      ap (λ z. work rank f z b) k

  -- the turn was the last
  pub done : (all : Run) (n : ℕ) (old now new : List Slip) (rows rows' : Rows) (m m' : Maker) (a : Crossed) → n < 129 →
      Turned rank f n rows rows' m m' now new (Some a) → Going all (work rank f (129 - n) (board_with rows m)) n old now → Did all rows' old new a
  done all n old now new rows rows' m m' a l t h =
      let b = board_with rows m in
      let v = next rank f b in
      let rest = work rank f (129 - (n + 1)) (after v b) in
      let by = ends_by v n rows m a (next_stood rank f b) t.answer in
      let d = over all (work rank f (129 - n) b) n old now rows m by.0 by.2 h (work_more n b l ∙ by.5 rest) in
      record {
        rows = ap (λ z. z.table.rows) (t.board ∙ by.4) ∙ d.rows;
        slips = t.slips ∙ ap (λ z. sets now n z) by.3 ∙ d.slips;
        answer = subst (λ z. Tells z all) (sym by.1) d.answer;
      }

  -- others follow
  pub turned : (all : Run) (n : ℕ) (old now new : List Slip) (rows rows' : Rows) (m m' : Maker) → n < 129 →
      Turned rank f n rows rows' m m' now new None → Going all (work rank f (129 - n) (board_with rows m)) n old now →
      Going all (work rank f (129 - (n + 1)) (board_with rows' m')) (n + 1) old new
  turned all n old now new rows rows' m m' l t h =
      let b = board_with rows m in
      let v = next rank f b in
      let rest = work rank f (129 - (n + 1)) (after v b) in
      let by = onwards_by v n m t.answer in
      let one : new ≡ set now n by.0 = t.slips ∙ ap (λ z. sets now n z) by.1 in
      rw t.board (rw one (again all (work rank f (129 - n) b) rest n old now by.0 h (work_more n b l ∙ by.2 b rest)))

  -- no move is left
  pub all_made : (all : Run) (n : ℕ) (old now : List Slip) (rows : Rows) (m : Maker) (a : Crossed) → n ≡ 129 → a ≡ end_with 129 None m →
      Going all (work rank f (129 - n) (board_with rows m)) n old now → Did all rows old now a
  unfolding work
  all_made all n old now rows m a e is h =
      let k : 129 - n ≡ 0 = omega arith in
      let d = over all (work rank f (129 - n) (board_with rows m)) n old now rows m None tt h (ap (λ z. work rank f z (board_with rows m)) k) in
      record { rows = d.rows; slips = d.slips; answer = subst (λ z. Tells z all) (sym (is ∙ ap (λ z. end_with z None m) (sym e))) d.answer }
