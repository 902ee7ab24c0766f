-- The laws refuse bad runs, with no engine involved.
use Rattle.std.proofs.Common.{◌≡◌, ℕ, zero, suc, ◌<◌, ◌≤◌, true, false, ◌≢◌, ◌⊎◌, [], ◌∷◌, length, Some, None, Option, sym, refl, ap, ◌∙◌, subst, inl, inr, ⊎_elim, arith}
use Rattle.std.proofs.lemmas.Bool.{ltb-true}
use Rattle.book.specs.Sides.{Side, Buy, Sell, opposite}
use Rattle.book.specs.Proposals.{Order, Quote, Proposal, proposal}
use Rattle.book.specs.Ranks.{by_time}
use Rattle.book.specs.Picks.{reaches}
use Rattle.book.specs.Tables.{Rows, At}
use Rattle.book.specs.Moves.{Board, Frame, in_quote}
use Rattle.book.specs.Makes.{board_of}
use Rattle.book.specs.Opens.{IsOrder, Unreached, Step, ByTaker, ByPair, IsStep, Open, Leads}
use Rattle.book.specs.Fair.{IsParty, Fair}
use Rattle.book.specs.Outs.{Outside}
use Rattle.book.specs.Sound.{Distinct, SoundRows, SoundQuote, Sound}
use Rattle.book.specs.Teeth.{order, quote, frame, waits, high, two_buys, both_reach, one_pair, two_pairs, SoundBoards, Teeth}
use Rattle.book.proofs.Bests.{none_some, true_false}
use Rattle.book.proofs.RowChanges.{standing_fits}

-- ---- the boards are sound

-- tickets rise from row to row, and each order has pieces
abbrev Rising : ℕ → Rows → Type 0
Rising n [] = Unit {0}
Rising n (None ∷ rs) = Rising n rs
Rising n (Some o ∷ rs) = (n < o.ticket) × (1 ≤ o.pieces) × Rising o.ticket rs

rising : (n : ℕ) (rows : Rows) → Rising n rows → (i : ℕ) (o : Order) → At rows i o → (n < o.ticket) × (1 ≤ o.pieces)
rising n [] h i o a = none_some o a
rising n (None ∷ rs) h zero o a = none_some o a
rising n (None ∷ rs) h (suc i) o a = rising n rs h i o a
rising n (Some p ∷ rs) h zero o a = let k : p ≡ o = cc in subst (λ z. (n < z.ticket) × (1 ≤ z.pieces)) k (h.0, h.1)
rising n (Some p ∷ rs) h (suc i) o a = let k = rising p.ticket rs h.2 i o a in (omega (arith, k.0, h.0), k.1)

-- the first row has the lowest ticket
lower_first : (p o r : Order) (rows : Rows) (i : ℕ) → Rising p.ticket rows → Some p ≡ Some o → At rows i r → o.ticket ≡ r.ticket → ⊥
lower_first p o r rows i h a c e =
    let k : p ≡ o = cc in
    omega (arith, (rising p.ticket rows h i r c).0, ap (λ z. z.ticket) k)

apart : (n : ℕ) (rows : Rows) → Rising n rows → Distinct rows
apart n [] h i j o r a c e = none_some o a
apart n (None ∷ rs) h zero j o r a c e = none_some o a
apart n (None ∷ rs) h (suc i) zero o r a c e = none_some r c
apart n (None ∷ rs) h (suc i) (suc j) o r a c e = ap suc (apart n rs h i j o r a c e)
apart n (Some p ∷ rs) h zero zero o r a c e = refl
apart n (Some p ∷ rs) h zero (suc j) o r a c e = absurd (lower_first p o r rs j h.2 a c e)
apart n (Some p ∷ rs) h (suc i) zero o r a c e = absurd (lower_first p r o rs i h.2 c a (sym e))
apart n (Some p ∷ rs) h (suc i) (suc j) o r a c e = ap suc (apart p.ticket rs h.2 i j o r a c e)

sound_rows : (rows : Rows) → Rising 1 rows → length rows ≤ 128 → SoundRows rows
sound_rows rows h l =
    record {
      distinct = apart 1 rows h;
      named = λ i o a e. omega (arith, (rising 1 rows h i o a).0);
      some = λ i o a. (rising 1 rows h i o a).1;
      few = omega (arith, standing_fits rows);
    }

dark : (f : Frame) (rows : Rows) → Rising 1 rows → length rows ≤ 128 → Sound f (board_of rows None false)
dark f rows h l = record { rows = sound_rows rows h l; quote = λ q e. none_some q e; halted_dark = λ _. refl }

lit : (opener : Option ℕ) (rows : Rows) → Rising 1 rows → length rows ≤ 128 → Sound (frame opener) (board_of rows (Some quote) false)
lit opener rows h l =
    record {
      rows = sound_rows rows h l;
      quote = λ q e. let k : quote ≡ q = cc in subst (SoundQuote (frame opener) rows) k fits;
      halted_dark = λ e. true_false false e refl;
    }
  where
    fits : SoundQuote (frame opener) rows quote
    fits =
        record {
          same_bid = refl;
          same_ask = refl;
          in_order = omega arith;
          some_bid = omega arith;
          some_ask = omega arith;
          apart = λ i o a e. omega (arith, (rising 1 rows h i o a).0);
        }

two : (m n : ℕ) (s r : Side) → Rising 1 (Some (order 2 s m 100) ∷ Some (order 3 r n 100) ∷ [])
two m n s r = (omega arith, omega arith, (omega arith, omega arith, tt))

boards : SoundBoards
boards =
    record {
      waits = lit (Some 2) waits.table.rows (two 105000 100000 Buy Sell) (omega arith);
      high = dark (frame None) high.table.rows (two 105000 102000 Buy Sell) (omega arith);
      two_buys = dark (frame None) two_buys.table.rows (omega arith, omega arith, (omega arith, omega arith, (omega arith, omega arith, tt))) (omega arith);
      both_reach = lit None both_reach.table.rows (two 101000 99000 Buy Sell) (omega arith);
      one_pair = dark (frame None) one_pair.table.rows (two 100000 100000 Buy Sell) (omega arith);
      two_pairs = dark (frame None) two_pairs.table.rows
          (omega arith, omega arith, (omega arith, omega arith, (omega arith, omega arith, (omega arith, omega arith, tt)))) (omega arith);
    }

-- ---- the runs are refused

-- what holds of each order of some rows
abbrev Each : (Order → Type 0) → Rows → Type 0
Each P [] = Unit {0}
Each P (None ∷ rs) = Each P rs
Each P (Some o ∷ rs) = P o × Each P rs

each : (P : Order → Type 0) (rows : Rows) → Each P rows → (i : ℕ) (o : Order) → At rows i o → P o
each P [] h i o a = none_some o a
each P (None ∷ rs) h zero o a = none_some o a
each P (None ∷ rs) h (suc i) o a = each P rs h i o a
each P (Some p ∷ rs) h zero o a = let k : p ≡ o = cc in subst P k h.0
each P (Some p ∷ rs) h (suc i) o a = each P rs h.1 i o a

party_number : (b : Board) (s : Side) (n : ℕ) (p : Proposal) → IsParty b s n p → n ≢ 0 → p.number ≡ n
party_number b s n p (inl h) k = absurd (k h.0)
party_number b s n p (inr h) k = ap (λ z. z.number) h.0.is ∙ h.1

-- where a buy reaches the quote that stands, a buy is the taker
module _ (b : Board) (i : ℕ) (o : Order) (is : b.quote ≡ Some quote) (a : At b.table.rows i o) (buys : o.side ≡ Buy) (r : reaches quote o Buy ≡ true) where
  same : (q : Quote) → b.quote ≡ Some q → quote ≡ q
  same q e = cc

  buy_takes : (step : Step) → IsStep b step → step ≡ ByTaker quote Buy
  buy_takes ByPair h = true_false _ r (h quote is Buy i o a buys)
  buy_takes (ByTaker q Buy) h = ap (λ z. ByTaker z Buy) (sym (same q h.0))
  buy_takes (ByTaker q Sell) h = true_false _ r (subst (λ z. Unreached b z Buy) (sym (same q h.0)) (h.2 refl) i o a buys)

no_taker : (b : Board) → b.quote ≡ None → (step : Step) → IsStep b step → step ≡ ByPair
no_taker b e ByPair h = refl
no_taker b e (ByTaker q s) h = none_some q (sym e ∙ h.0)

waiting_shut : (p : Proposal) → p.number ≡ 3 → Open (frame (Some 2)) waits (ByTaker quote Buy) Sell p → ⊥
waiting_shut p n (inl e) = let k : p.number ≡ 1 = ap (λ z. z.number) e in omega arith
waiting_shut p n (inr w) =
    let k : p.number ≡ w.found.order.ticket = ap (λ z. z.number) w.found.is in
    omega (arith, ltb-true w.found.order.ticket 2 w.is_settled)

no_waiting : Fair by_time (frame (Some 2)) waits 100000 100 2 3 → ⊥
no_waiting F =
    waiting_shut F.sells.party (party_number waits Sell 3 F.sells.party F.sells.stands (omega arith))
    (subst (λ z. Open (frame (Some 2)) waits z Sell F.sells.party)
    (buy_takes waits 0 (order 2 Buy 105000 100) refl refl refl refl F.step F.is_step) F.sells.leads.is_open)

party_is : (b : Board) (s : Side) (o : Order) → o.ticket ≢ 0 → Each (λ p. p.ticket ≡ o.ticket → p ≡ o) b.table.rows →
    (p : Proposal) →
    IsParty b s o.ticket p → p ≡ proposal o
party_is b s o k h p (inl e) = absurd (k e.0)
party_is b s o k h p (inr w) =
    w.0.is ∙ ap (λ z. proposal z) (each (λ p. p.ticket ≡ o.ticket → p ≡ o) b.table.rows h w.0.place w.0.order w.0.stands w.1)

no_passing : Fair by_time (frame None) two_buys 100000 100 2 4 → ⊥
no_passing F =
    let buy = order 2 Buy 100000 100 in
    let better = order 3 Buy 100500 100 in
    let is : F.buys.party ≡ proposal buy = party_is two_buys Buy buy (omega arith)
    ((λ _. refl), ((λ (e : 3 ≡ 2). absurd (omega arith)), ((λ (e : 4 ≡ 2). absurd (omega arith)), tt))) F.buys.party F.buys.stands in
    let pair : F.step ≡ ByPair = no_taker two_buys refl F.step F.is_step in
    let leads : Leads by_time (frame None) two_buys ByPair Buy (proposal buy) =
    subst (λ z. Leads by_time (frame None) two_buys ByPair Buy z) is
    (subst (λ z. Leads by_time (frame None) two_buys z Buy F.buys.party) pair F.buys.leads) in
    true_false (by_time Buy (proposal buy) (proposal better))
    (leads.ahead (proposal better) (record { place = 1; order = better; stands = refl; side = refl; is = refl }) (λ (e : 3 ≡ 2). omega arith)) refl

-- the number of an order of the board is neither the quote's nor 0
no_order : (p : Proposal) (s : Side) → IsOrder both_reach s p → (p.number ≢ 1) × (p.number ≢ 0)
no_order p s w =
    let e : p.number ≡ w.order.ticket = ap (λ z. z.number) w.is in
    let t : 2 ≤ w.order.ticket = each (λ o. 2 ≤ o.ticket) both_reach.table.rows (omega arith, (omega arith, tt)) w.place w.order w.stands in
    ((λ k. omega arith), (λ k. omega arith))

quote_number : (p : Proposal) → IsParty both_reach Buy 0 p → (p.number ≡ 1) ⊎ (p.number ≡ 0)
quote_number p (inl h) =
    let k : quote ≡ h.1.0 = cc h.1.1 in
    inl (ap (λ z. z.number) h.1.2 ∙ ap (λ z. z.number) (sym k))
quote_number p (inr h) = inr (ap (λ z. z.number) h.0.is ∙ h.1)

no_selling : Fair by_time (frame None) both_reach 99000 100 0 3 → ⊥
no_selling F =
    let takes : F.step ≡ ByTaker quote Buy = buy_takes both_reach 0 (order 2 Buy 101000 100) refl refl refl refl F.step F.is_step in
    let is : IsOrder both_reach Buy F.buys.party = subst (λ z. Open (frame None) both_reach z Buy F.buys.party) takes F.buys.leads.is_open in
    let k = no_order F.buys.party Buy is in
    ⊎_elim k.0 k.1 (quote_number F.buys.party F.buys.stands)

no_taking_out : (o : Order) → Outside by_time (frame None) one_pair o → ⊥
no_taking_out o w =
    let is : IsOrder one_pair (opposite o.side) (proposal w.other) =
    subst (λ z. Open (frame None) one_pair z (opposite o.side) (proposal w.other)) w.pair w.meets.other_leads.is_open in
    let e : w.other.price ≡ is.order.price = ap (λ z. z.price) is.is in
    let at : is.order.price ≡ 100000 = each (λ o. o.price ≡ 100000) one_pair.table.rows (refl, (refl, tt)) is.place is.order is.stands in
    true_false _ refl (subst (λ z. in_quote (frame None) z ≡ false) (e ∙ at) w.outside)

pub teeth : Teeth
teeth =
    record {
      sound = boards;
      waiting = λ l. no_waiting l.course.fair.0;
      dear = λ l. let h : 105000 ≤ 101000 = l.course.fair.0.to_ask in omega arith;
      passed_over = λ l. no_passing l.course.fair.0;
      sell_first = λ l. no_selling l.course.fair.0;
      dropped = λ l.
          let h : 100000 < 100000 = (l.course.quiet refl refl).apart 2 3 (order 4 Buy 100000 50) (order 5 Sell 100000 50) refl refl refl refl in omega arith;
      taken_out = λ l. no_taking_out l.course.fair.0.order l.course.fair.0.why;
      lost = λ l. let h : 100 ≡ 99 = l.ledger 2 (omega arith) in omega arith;
    }
