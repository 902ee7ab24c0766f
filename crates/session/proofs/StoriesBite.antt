-- The laws refuse what worthless engines would give.
use Rattle.std.proofs.Common.{◌≡◌, ℕ, zero, suc, ◌<◌, ◌≤◌, true, false, ◌≢◌, [], ◌∷◌, replicate, Some, None, sym, refl, ap, ◌∙◌, subst, inl, inr, ⊎_elim, arith}
use Rattle.std.proofs.lemmas.Bool.{ltb-true}
use Rattle.book.specs.Boards.{Board}
use Rattle.book.specs.Cross.{work}
use Rattle.book.specs.Fair.{Fair, IsParty}
use Rattle.book.specs.Firsts.{scan}
use Rattle.book.specs.Makes.{board_of}
use Rattle.book.specs.Moves.{in_quote, next, trading}
use Rattle.book.specs.Opens.{ByPair, ByTaker, IsOrder, IsStep, Leads, Open, Step, Unreached}
use Rattle.book.specs.Outs.{Outside}
use Rattle.book.specs.Picks.{reaches}
use Rattle.book.specs.Proposals.{proposal}
use Rattle.book.specs.Ranks.{by_time}
use Rattle.book.specs.Sides.{opposite}
use Rattle.book.specs.Tables.{At, Rows, place}
use Rattle.book.specs.declared.frame.Frame.{Frame}
use Rattle.book.specs.declared.order.Order.{Order}
use Rattle.book.specs.declared.proposal.Proposal.{Proposal}
use Rattle.book.specs.declared.quote.Quote.{Quote}
use Rattle.book.specs.declared.side.Side.{Side}
use Rattle.book.specs.declared.side.Side.TheVariants.{Buy, Sell}
use Rattle.book.proofs.Bests.{none_some, true_false}
use Rattle.session.specs.Calls.{done, order_of}
use Rattle.session.specs.Phases.{is_asked, is_halted}
use Rattle.session.specs.Runs.{crossing}
use Rattle.session.specs.Stories.{yields}
use Rattle.session.specs.StoryTeeth.{StoryTeeth, brief, entry, quote}

-- ---- what holds of each order of some rows
abbrev Each : (Order → Type 0) → Rows → Type 0
Each P [] = Unit {0}
Each P (None ∷ rs) = Each P rs
Each P (Some o ∷ rs) = P o × Each P rs

each : (P : Order → Type 0) (rows : Rows) → Each P rows → (i : ℕ) (o : Order) → At rows i o → P o
each P [] h i o a = none_some o a
each P (None ∷ rs) h zero o a = none_some o a
each P (None ∷ rs) h (suc i) o a = each P rs h i o a
each P (Some p ∷ rs) h zero o a = let k : p ≡ o = cc in subst P k h.0
each P (Some p ∷ rs) h (suc i) o a = each P rs h.1 i o a

party_number : (b : Board) (s : Side) (n : ℕ) (p : Proposal) → IsParty b s n p → n ≢ 0 → p.number ≡ n
party_number b s n p (inl h) k = absurd (k h.0)
party_number b s n p (inr h) k = ap (λ z. z.number) h.0.is ∙ h.1

-- where a buy reaches the quote that stands, a buy is the taker
module _ (b : Board) (i : ℕ) (o : Order) (is : b.quote ≡ Some quote) (a : At b.table.rows i o) (buys : o.side ≡ Buy)
    (r : reaches quote o Buy ≡ true) where
  same : (q : Quote) → b.quote ≡ Some q → quote ≡ q
  same q e = cc

  buy_takes : (step : Step) → IsStep b step → step ≡ ByTaker quote Buy
  buy_takes ByPair h = true_false _ r (h quote is Buy i o a buys)
  buy_takes (ByTaker q Buy) h = ap (λ z. ByTaker z Buy) (sym (same q h.0))
  buy_takes (ByTaker q Sell) h = true_false _ r (subst (λ z. Unreached b z Buy) (sym (same q h.0)) (h.2 refl) i o a buys)

no_taker : (b : Board) → b.quote ≡ None → (step : Step) → IsStep b step → step ≡ ByPair
no_taker b e ByPair h = refl
no_taker b e (ByTaker q s) h = none_some q (sym e ∙ h.0)

party_is : (b : Board) (s : Side) (o : Order) → o.ticket ≢ 0 → Each (λ p. p.ticket ≡ o.ticket → p ≡ o) b.table.rows →
    (p : Proposal) →
    IsParty b s o.ticket p → p ≡ proposal o
party_is b s o k h p (inl e) = absurd (k e.0)
party_is b s o k h p (inr w) =
    w.0.is ∙ ap (λ z. proposal z) (each (λ p. p.ticket ≡ o.ticket → p ≡ o) b.table.rows h w.0.place w.0.order
    w.0.stands w.1)

-- ---- three boards, with all places
abbrev empty : Rows
empty = replicate 128 None

abbrev two : ℕ → ℕ → Rows
two buy sell = place (order_of (entry Sell sell 100) 3) (place (order_of (entry Buy buy 100) 2) empty)

abbrev asked : ℕ → ℕ → Board
asked buy sell = board_of (two buy sell) (Some quote) false

abbrev waited : Frame
waited = record { bid = 99000; ask = 101000; opener = Some 2; entered = false; dynamic = 100000; limit = 50 }

-- a waiting sell is no partner
no_waiting : Fair by_time waited (asked 105000 100000) 100000 100 2 3 → ⊥
unfolding place
no_waiting F =
    shut F.sells.party (party_number (asked 105000 100000) Sell 3 F.sells.party F.sells.stands (omega arith))
    (subst (λ z. Open waited (asked 105000 100000) z Sell F.sells.party)
    (buy_takes (asked 105000 100000) 0 (order_of (entry Buy 105000 100) 2) refl refl refl refl F.step F.is_step)
    F.sells.leads.is_open)
  where
    shut : (p : Proposal) → p.number ≡ 3 → Open waited (asked 105000 100000) (ByTaker quote Buy) Sell p → ⊥
    shut p n (inl e) = let k : p.number ≡ 1 = ap (λ z. z.number) e in omega arith
    shut p n (inr w) =
        let k : p.number ≡ w.found.order.ticket = ap (λ z. z.number) w.found.is in
        omega (arith, ltb-true w.found.order.ticket 2 w.is_settled)

-- with a buy that reaches the quote, the quote does not buy
no_selling : Fair by_time waited (asked 105000 95000) 99000 100 0 3 → ⊥
unfolding place
no_selling F =
    let b = asked 105000 95000 in
    let takes : F.step ≡ ByTaker quote Buy = buy_takes b 0 (order_of (entry Buy 105000 100) 2) refl refl refl refl F.step F.is_step in
    let is : IsOrder b Buy F.buys.party = subst (λ z. Open waited b z Buy F.buys.party) takes F.buys.leads.is_open in
    let t : 2 ≤ is.order.ticket = each (λ o. 2 ≤ o.ticket) b.table.rows (omega arith, (omega arith, tt)) is.place
    is.order is.stands in
    let e : F.buys.party.number ≡ is.order.ticket = ap (λ z. z.number) is.is in
    by_quote F.buys.party F.buys.stands (omega (arith, t, e))
  where
    by_quote : (p : Proposal) → IsParty (asked 105000 95000) Buy 0 p → 2 ≤ p.number → ⊥
    by_quote p (inl h) l =
        let k : quote ≡ h.1.0 = cc h.1.1 in
        let n : p.number ≡ 1 = ap (λ z. z.number) h.1.2 ∙ ap (λ z. z.number) (sym k) in
        omega arith
    by_quote p (inr h) l = let n : p.number ≡ 0 = ap (λ z. z.number) h.0.is ∙ h.1 in omega arith

-- the better of two sells goes first
abbrev dark : Board
dark = board_of (place (order_of (entry Sell 99500 100) 4) (two 101000 100000)) None false

no_passing : Fair by_time waited dark 101000 100 2 3 → ⊥
unfolding place
no_passing F =
    let sell = order_of (entry Sell 100000 100) 3 in
    let better = order_of (entry Sell 99500 100) 4 in
    let is : F.sells.party ≡ proposal sell = party_is dark Sell sell (omega arith)
    ((λ (e : 2 ≡ 3). absurd (omega arith)), ((λ _. refl), ((λ (e : 4 ≡ 3). absurd (omega arith)), tt))) F.sells.party
    F.sells.stands in
    let pair : F.step ≡ ByPair = no_taker dark refl F.step F.is_step in
    let leads : Leads by_time waited dark ByPair Sell (proposal sell) =
    subst (λ z. Leads by_time waited dark ByPair Sell z) is
    (subst (λ z. Leads by_time waited dark z Sell F.sells.party) pair F.sells.leads) in
    true_false (by_time Sell (proposal sell) (proposal better))
    (leads.ahead (proposal better) (record { place = 2; order = better; stands = refl; side = refl; is = refl })
    (λ (e : 4 ≡ 3). omega arith)) refl

-- two orders that meet inside the quote are not taken out for being outside
no_taking_out : (o : Order) → Outside by_time waited (board_of (two 101000 100000) None false) o → ⊥
unfolding place
no_taking_out o w =
    let b = board_of (two 101000 100000) None false in
    let is : IsOrder b (opposite o.side) (proposal w.other) =
    subst (λ z. Open waited b z (opposite o.side) (proposal w.other)) w.pair w.meets.other_leads.is_open in
    let e : w.other.price ≡ is.order.price = ap (λ z. z.price) is.is in
    let inside : in_quote waited is.order.price ≡ true =
    each (λ x. in_quote waited x.price ≡ true) b.table.rows (refl, (refl, tt)) is.place is.order is.stands in
    true_false _ inside (subst (λ z. in_quote waited z ≡ false) e w.outside)

-- who goes out of two that meet outside the quote came later
no_elder : (o : Order) → o.ticket ≡ 2 → Outside by_time waited (board_of (two 105000 95000) None false) o → ⊥
unfolding place
no_elder o n w =
    let b = board_of (two 105000 95000) None false in
    let is : IsOrder b (opposite o.side) (proposal w.other) =
    subst (λ z. Open waited b z (opposite o.side) (proposal w.other)) w.pair w.meets.other_leads.is_open in
    let e : w.other.ticket ≡ is.order.ticket = ap (λ z. z.number) is.is in
    let t : 2 ≤ is.order.ticket = each (λ x. 2 ≤ x.ticket) b.table.rows (omega arith, (omega arith, tt)) is.place
    is.order is.stands in
    omega (arith, n, e, t, w.later)

pub story_teeth : StoryTeeth
unfolding scan place trading next work done crossing yields
story_teeth =
    record {
      dropped = λ l.
          let h : 100500 < 100000 = (l.common.quiet refl refl).apart 2 3 (order_of (entry Buy 100500 50) 4)
          (order_of (entry Sell 100000 50) 5) refl refl refl refl in
          omega arith;
      stored = λ l. let h : 100 ≡ 0 = l.common.ledger 2 (omega arith) in omega arith;
      beyond = λ l. true_false false l.fair.0.0.in_limit refl;
      sell_first = λ l. no_selling l.fair.0.0;
      waits = λ l. no_waiting l.fair.0.0;
      passed_over = λ l. no_passing l.fair.0.0;
      dear = λ l. let h : 105000 ≤ 101000 = l.fair.0.0.to_ask in omega arith;
      lost = λ l. let h : 100 ≡ 99 = l.common.ledger 2 (omega arith) in omega arith;
      taken_out = λ l. no_taking_out l.fair.0.0.order l.fair.0.0.why;
      elder = λ l. no_elder l.fair.0.0.order l.fair.0.0.named l.fair.0.0.why;
      static = λ l. true_false false l.fair.0.0.in_limit refl;
      tail = λ l. true_false true refl (l.common.brief refl 0 (order_of brief 2) refl);
      renumbered = λ l. let h : 4 ≡ 1 = l.common.replies.0.1 in omega arith;
      late = λ l. let h : 30 < 30 = l.common.timely.asked (omega arith) _ _ refl in omega arith;
      early = λ l.
          ⊎_elim (λ z. true_false true refl (ap is_asked (sym z.0))) (λ z. let h : 30 ≤ 29 = z.1 in omega arith)
          (l.common.rfes.0 _ _ refl);
      impatient = λ l. ⊎_elim (λ z. true_false true refl (ap is_asked (sym z.0))) (λ z. z.1) (l.common.rfes.0 _ _ refl);
      blank = λ l. let h : 0 ≡ 2 = l.common.summonses.0.1 in omega arith;
      too_far = λ l. true_false false l.prices.0.0 refl;
      invented = λ l. l.fair.0.0.why;
      halted = λ l.
          ⊎_elim (λ e. true_false true refl (ap is_halted (sym e))) (λ z. true_false false z.0 refl) (l.phases.0.halts 130 refl);
    }
