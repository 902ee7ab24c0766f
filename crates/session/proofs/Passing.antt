-- What is known of a call that is not refused.
use Rattle.std.proofs.Common.{◌≡◌, ℕ, ◌+◌, ◌<◌, ◌≤◌, Bool, true, false, cond, leb, is_some, Some, None, Ok, Err, Option, Result, sym, refl, ap, arith}
use Rattle.std.proofs.lemmas.Bool.{and_parts, eqb-true, leb-false, leb-true, ltb-true, not-true}
use Rattle.figures.specs.Checks as figures
use Rattle.figures.specs.Checks.{Checked, beyond_check, cross_check, order_check, pieces_check, price_check, quote_check, sender_check}
use Rattle.figures.specs.declared.offer.Offer.{Offer}
use Rattle.figures.specs.Pieces.{are_allowed}
use Rattle.figures.specs.declared.fault.Field.TheVariants as field
use Rattle.figures.specs.declared.fault.FiguresFault.TheVariants.{Beyond, Crossed, Pieces}
use Rattle.book.specs.Admits.{Admitted, checked_then, numbered, order_admitted, quote_admitted}
use Rattle.book.specs.Owned.{owned_order}
use Rattle.book.specs.Firsts.{find}
use Rattle.book.specs.Tables.{Rows, is_full, standing}
use Rattle.book.specs.declared.fault.BookFault.{BookFault}
use Rattle.book.specs.declared.fault.BookFault.TheVariants.{Full, NumbersUsed}
use Rattle.book.specs.declared.found.Found.{Found}
use Rattle.session.specs.Checks.{Passed, cancel_check, clock_check, enter_check, fits, from_book, from_figures, holds, quote_test, room_check, then, validate_check, withdraw_check}
use Rattle.session.specs.Days.{Day, State}
use Rattle.session.specs.Phases.{is_asked, is_dark, is_halted, opener_of, quote_of}
use Rattle.session.specs.StoryFair.{in_limit1}
use Rattle.session.specs.declared.entry.Entry.{Entry}

err_ok : {A E : Type 0} {B : Type 0} (f : E) (a : A) → ◌≡◌ {A = Result A E} (Err f) (Ok a) → B
err_ok f a e = let z : ◌≡◌ {A = ℕ} 0 1 = cc in absurd (omega arith)

then_ok : {A B : Type 0} (r : Passed A) (f : A → Passed B) (b : B) → then r f ≡ Ok b → (a : A) × (r ≡ Ok a) × (f a ≡ Ok b)
then_ok (Ok a) f b e = (a, refl, e)
then_ok (Err x) f b e = err_ok x b e

holds_ok : {E : Type 0} (p : Bool) (x : E) (u : Unit {0}) → holds p x ≡ Ok u → p ≡ true
holds_ok true x u e = refl
holds_ok false x u e = err_ok x u e

figures_ok : (r : Checked) (u : Unit {0}) → from_figures r ≡ Ok u → r ≡ Ok u
figures_ok (Ok v) u e = refl
figures_ok (Err x) u e = err_ok _ u e

book_ok : {A : Type 0} (r : Result A BookFault) (a : A) → from_book r ≡ Ok a → r ≡ Ok a
book_ok (Ok b) a e = let k : b ≡ a = cc in ap (λ z. Ok z) k
book_ok (Err x) a e = err_ok _ a e

-- ---- the figures
and_ok : (r k : Checked) (u : Unit {0}) → figures.and r k ≡ Ok u → (r ≡ Ok tt) × (k ≡ Ok tt)
and_ok (Ok v) k u e = (refl, e)
and_ok (Err x) k u e = err_ok x u e

checked_ok : (r : Checked) (k : Admitted) (n : ℕ) → checked_then r k ≡ Ok n → (r ≡ Ok tt) × (k ≡ Ok n)
checked_ok (Ok u) k n e = (refl, e)
checked_ok (Err x) k n e = err_ok _ n e

numbered_ok : (count n : ℕ) → numbered count ≡ Ok n → (n ≡ count + 1) × (count < 1000000)
numbered_ok count n e = go (leb 1000000 count) refl e
  where
    go : (v : Bool) → leb 1000000 count ≡ v → cond v (Err NumbersUsed) (Ok (count + 1)) ≡ Ok n → (n ≡ count + 1) × (count < 1000000)
    go true k h = err_ok _ n h
    go false k h = (let z : count + 1 ≡ n = cc in sym z, leb-false 1000000 count k)

full_ok : (rows : Rows) (k : Admitted) (n : ℕ) → cond (is_full rows) (Err Full) k ≡ Ok n → (standing rows < 128) × (k ≡ Ok n)
full_ok rows k n e = go (is_full rows) refl e
  where
    go : (v : Bool) → is_full rows ≡ v → cond v (Err Full) k ≡ Ok n → (standing rows < 128) × (k ≡ Ok n)
    go true h z = err_ok _ n z
    go false h z = (leb-false 128 (standing rows) h, z)

abbrev limit1 : Day → ℕ
limit1 d = (d.means d.reference).limit1

pub record OrderFigures (d : Day) (price pieces : ℕ) : Type 0 where
  pub within : in_limit1 d price ≡ true
  pub some : 1 ≤ pieces
  pub few : pieces ≤ 10000000

order_figures : (d : Day) (price pieces : ℕ) (u : Unit {0}) → order_check d.means d.reference price pieces ≡ Ok u →
    OrderFigures d price pieces
order_figures d price pieces u e =
    let a = and_ok _ _ u e in
    let b = and_ok _ _ tt a.1 in
    let c = and_parts _ _ (holds_ok _ _ tt b.1) in
    record {
      within = holds_ok _ _ tt b.0;
      some = leb-true 1 pieces c.0;
      few = leb-true pieces 10000000 (and_parts _ _ c.1).0;
    }

pub record QuoteFigures (d : Day) (o : Offer) : Type 0 where
  pub in_order : o.bid < o.ask
  pub bid_within : in_limit1 d o.bid ≡ true
  pub ask_within : in_limit1 d o.ask ≡ true
  pub some_bid : 1 ≤ o.bid_pieces
  pub some_ask : 1 ≤ o.ask_pieces

quote_figures : (d : Day) (o : Offer) (u : Unit {0}) → quote_check d.means d.reference o ≡ Ok u → QuoteFigures d o
quote_figures d o u e =
    let ask = pieces_check d.means d.reference o.ask o.ask_pieces field.AskPieces in
    let bid = pieces_check d.means d.reference o.bid o.bid_pieces field.Pieces in
    let ask_in = beyond_check d.means d.reference o.ask field.Ask in
    let bid_in = beyond_check d.means d.reference o.bid field.Price in
    let c1 = figures.and bid ask in
    let c2 = figures.and ask_in c1 in
    let c3 = figures.and bid_in c2 in
    let c4 = figures.and (cross_check o) c3 in
    let a = and_ok (price_check o.bid field.Price) (figures.and (price_check o.ask field.Ask) c4) u e in
    let b = and_ok (price_check o.ask field.Ask) c4 tt a.1 in
    let c = and_ok (cross_check o) c3 tt b.1 in
    let f = and_ok bid_in c2 tt c.1 in
    let g = and_ok ask_in c1 tt f.1 in
    let h = and_ok bid ask tt g.1 in
    record {
      in_order = ltb-true _ _ (holds_ok _ Crossed tt c.0);
      bid_within = holds_ok _ (Beyond field.Price) tt f.0;
      ask_within = holds_ok _ (Beyond field.Ask) tt g.0;
      some_bid = leb-true _ _ (and_parts _ _ (holds_ok
          (are_allowed o.bid_pieces o.bid d.reference (d.means d.reference).turnover) (Pieces field.Pieces) tt h.0)).0;
      some_ask = leb-true _ _ (and_parts _ _ (holds_ok
          (are_allowed o.ask_pieces o.ask d.reference (d.means d.reference).turnover) (Pieces field.AskPieces) tt
          h.1)).0;
    }

-- ---- each call
pub room_ok : (places : ℕ) (u : Unit {0}) → room_check places ≡ Ok u → 129 ≤ places
room_ok places u e = leb-true 129 places (holds_ok _ _ u e)

pub record EnterPassed (d : Day) (s : State) (places : ℕ) (e : Entry) (ticket : ℕ) : Type 0 where
  pub room : 129 ≤ places
  pub not_halted : is_halted s.phase ≡ false
  pub not_dark : is_dark s.phase ≡ false
  pub figures : OrderFigures d e.price e.pieces
  pub space : standing s.table.rows < 128
  pub next : ticket ≡ s.count + 1
  pub left : s.count < 1000000

pub enter_passed : (d : Day) (s : State) (places : ℕ) (e : Entry) (ticket : ℕ) → enter_check d s places e ≡ Ok ticket →
    EnterPassed d s places e ticket
enter_passed d s places e ticket h =
    let a = then_ok (room_check places) _ ticket h in
    let b = then_ok (from_figures (sender_check e.sender)) _ ticket a.2 in
    let c = then_ok _ _ ticket b.2 in
    let f = then_ok _ _ ticket c.2 in
    let g = book_ok (order_admitted d.means d.reference e.price e.pieces s.table.rows s.count) ticket f.2 in
    let i = checked_ok (order_check d.means d.reference e.price e.pieces) _ ticket g in
    let j = full_ok s.table.rows (numbered s.count) ticket i.1 in
    let k = numbered_ok s.count ticket j.1 in
    record {
      room = room_ok places a.0 a.1;
      not_halted = not-true _ (holds_ok _ _ c.0 c.1);
      not_dark = not-true _ (holds_ok _ _ f.0 f.1);
      figures = order_figures d e.price e.pieces tt i.0;
      space = j.0;
      next = k.0;
      left = k.1;
    }

pub record QuotePassed (d : Day) (s : State) (places : ℕ) (o : Offer) (number : ℕ) : Type 0 where
  pub room : 129 ≤ places
  pub not_halted : is_halted s.phase ≡ false
  pub not_asked : is_asked s.phase ≡ false
  pub figures : QuoteFigures d o
  pub next : number ≡ s.count + 1
  pub left : s.count < 1000000

pub quote_passed : (d : Day) (s : State) (places : ℕ) (o : Offer) (number : ℕ) → quote_test d s places o ≡ Ok number →
    QuotePassed d s places o number
quote_passed d s places o number h =
    let a = then_ok (room_check places) _ number h in
    let b = then_ok _ _ number a.2 in
    let c = then_ok _ _ number b.2 in
    let g = book_ok (quote_admitted d.means d.reference o s.count) number c.2 in
    let i = checked_ok (quote_check d.means d.reference o) (numbered s.count) number g in
    let k = numbered_ok s.count number i.1 in
    record {
      room = room_ok places a.0 a.1;
      not_halted = not-true _ (holds_ok _ _ b.0 b.1);
      not_asked = not-true _ (holds_ok _ _ c.0 c.1);
      figures = quote_figures d o tt i.0;
      next = k.0;
      left = k.1;
    }

pub record ValidatePassed (d : Day) (s : State) (places summons : ℕ) (o : Offer) : Type 0 where
  pub room : 129 ≤ places
  pub is_asked : is_asked s.phase ≡ true
  pub fits : summons ≡ opener_of s.phase
  pub figures : QuoteFigures d o

pub validate_passed : (d : Day) (s : State) (places summons : ℕ) (o : Offer) (u : Unit {0}) →
    validate_check d s places summons o ≡ Ok u → ValidatePassed d s places summons o
validate_passed d s places summons o u h =
    let a = then_ok (room_check places) _ u h in
    let b = then_ok _ _ u a.2 in
    record {
      room = room_ok places a.0 a.1;
      is_asked = (and_parts _ _ (holds_ok (fits s summons) _ b.0 b.1)).0;
      fits = eqb-true _ _ (and_parts _ _ (holds_ok (fits s summons) _ b.0 b.1)).1;
      figures = quote_figures d o u (figures_ok _ u b.2);
    }

pub withdraw_passed : (s : State) (places : ℕ) (u : Unit {0}) → withdraw_check s places ≡ Ok u → (129 ≤ places) ×
    (is_some (quote_of s.phase) ≡ true)
withdraw_passed s places u h = let a = then_ok (room_check places) _ u h in (room_ok places a.0 a.1, holds_ok _ _ u a.2)

pub clock_passed : (s : State) (places seconds : ℕ) (u : Unit {0}) → clock_check s places seconds ≡ Ok u → 129 ≤ places
clock_passed s places seconds u h = let a = then_ok (room_check places) _ u h in room_ok places a.0 a.1

found_ok : (r : Option Found) (f : Found) → owned_order r ≡ Ok f → r ≡ Some f
found_ok None f e = err_ok _ f e
found_ok (Some x) f e = let k : x ≡ f = cc in ap (λ z. Some z) k

pub cancel_passed : (s : State) (places sender ticket : ℕ) (f : Found) → cancel_check s places sender ticket ≡ Ok f →
    (129 ≤ places) × (find sender ticket s.table.rows ≡ Some f)
cancel_passed s places sender ticket f h =
    let a = then_ok (room_check places) _ f h in (room_ok places a.0 a.1, found_ok _ f (book_ok _ f a.2))
