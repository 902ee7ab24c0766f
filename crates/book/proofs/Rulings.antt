-- What the laws say of a moment of a cross: one thing only.
use Rattle.std.proofs.Common.{◌≡◌, ℕ, ◌<◌, ◌≤◌, min, true, false, cond, not, ◌&&◌, eqb, ltb, ◌≢◌, ◌⊎◌, Some, sym, refl, ap, ◌∙◌, subst, inl, inr, ⊎_elim, arith}
use Rattle.std.proofs.lemmas.Bool.{cases_eq, cases_Bool, cond-true, cond-false, leb-true, lt-ltb, le-ltb, le-leb, and_from, and_left, and_right, ne_eqb, eq-eqb, eqb-true}
use Rattle.book.specs.Causes.{Cause, Cancelled, OutsideQuote, Expired, BeyondLimit}
use Rattle.book.specs.Sides.{Side, Buy, Sell, opposite}
use Rattle.book.specs.Proposals.{Order, Quote, Proposal, proposal, side_of}
use Rattle.book.specs.Ranks.{Rank, RankLaw}
use Rattle.book.specs.Picks.{reaches}
use Rattle.book.specs.Tables.{At}
use Rattle.book.specs.Moves.{Board, Frame, Move, Stop, Ask, Deal, Strike, Halt, in_limit, in_quote}
use Rattle.book.specs.Makes.{Slip, Trade, Out, traded, gone}
use Rattle.book.specs.Opens.{IsOrder, Reached, Unreached, Step, ByTaker, ByPair, IsStep, IsPartner, Open, Leads}
use Rattle.book.specs.Fair.{IsParty, Keeps, Served, price_by, Fair}
use Rattle.book.specs.Quiet.{Quiet}
use Rattle.book.specs.Outs.{Meets, LeftOver, Outside, Beyond, Loses, Why}
use Rattle.book.specs.FairSlips.{FairSlip}
use Rattle.book.specs.Sound.{Sound}
use Rattle.book.specs.Asked.{Asked}
use Rattle.book.proofs.Bests.{true_false, same_order}
use Rattle.book.proofs.GoodMoves.{Good}

-- ---- the step and the two that lead are the only ones

module _ (rank : Rank) (L : RankLaw rank) (f : Frame) (b : Board) (S : Sound f b) where
  reached_not : (q r : Quote) (s : Side) → b.quote ≡ Some q → b.quote ≡ Some r → Reached b q s → Unreached b r s → ⊥
  reached_not q r s e k h u =
      let same : q ≡ r = cc in
      true_false _ h.reaching (subst (λ z. Unreached b z s) (sym same) u h.place h.order h.stands h.side)

  same_step : (x y : Step) → IsStep b x → IsStep b y → x ≡ y
  same_step (ByTaker q Buy) (ByTaker r Buy) h k = let e : q ≡ r = cc (h.0, k.0) in ap (λ z. ByTaker z Buy) e
  same_step (ByTaker q Buy) (ByTaker r Sell) h k = absurd (reached_not q r Buy h.0 k.0 h.1 (k.2 refl))
  same_step (ByTaker q Sell) (ByTaker r Buy) h k = absurd (reached_not r q Buy k.0 h.0 k.1 (h.2 refl))
  same_step (ByTaker q Sell) (ByTaker r Sell) h k = let e : q ≡ r = cc (h.0, k.0) in ap (λ z. ByTaker z Sell) e
  same_step (ByTaker q s) ByPair h k = absurd (reached_not q q s h.0 h.0 h.1 (k q h.0 s))
  same_step ByPair (ByTaker q s) h k = absurd (reached_not q q s k.0 k.0 k.1 (h q k.0 s))
  same_step ByPair ByPair h k = refl

  order_number : (s : Side) (p : Proposal) → (w : IsOrder b s p) → p.number ≡ w.order.ticket
  order_number s p w = ap (λ z. z.number) w.is

  same_orders : (s : Side) (p r : Proposal) → IsOrder b s p → IsOrder b s r → p.number ≡ r.number → p ≡ r
  same_orders s p r w v e =
      w.is
      ∙ ap (λ z. proposal z)
      (same_order b.table.rows S.rows.distinct w.place v.place w.order v.order w.stands v.stands
      (sym (order_number s p w) ∙ e ∙ order_number s r v))
      ∙ sym v.is

  side_number : (q : Quote) (s : Side) → (side_of q s).number ≡ q.number
  side_number q Buy = refl
  side_number q Sell = refl

  -- no order has the quote's number
  not_quote : (q : Quote) → b.quote ≡ Some q → (s : Side) (p : Proposal) → IsOrder b s p → p.number ≢ q.number
  not_quote q is s p w e = (S.quote q is).apart w.place w.order w.stands (sym (order_number s p w) ∙ e)

  same_partners : (q : Quote) → b.quote ≡ Some q → (s : Side) (p r : Proposal) → IsPartner f b q s p → IsPartner f b q s r →
      p.number ≡ r.number → p ≡ r
  same_partners q is s p r (inl x) (inl y) e = x ∙ sym y
  same_partners q is s p r (inl x) (inr y) e = absurd (not_quote q is s r y.found (sym e ∙ ap (λ z. z.number) x ∙ side_number q s))
  same_partners q is s p r (inr x) (inl y) e = absurd (not_quote q is s p x.found (e ∙ ap (λ z. z.number) y ∙ side_number q s))
  same_partners q is s p r (inr x) (inr y) e = same_orders s p r x.found y.found e

  same_open : (step : Step) → IsStep b step → (s : Side) (p r : Proposal) → Open f b step s p → Open f b step s r →
      p.number ≡ r.number → p ≡ r
  same_open ByPair is s p r x y e = same_orders s p r x y e
  same_open (ByTaker q Buy) is Buy p r x y e = same_orders Buy p r x y e
  same_open (ByTaker q Buy) is Sell p r x y e = same_partners q is.0 Sell p r x y e
  same_open (ByTaker q Sell) is Buy p r x y e = same_partners q is.0 Buy p r x y e
  same_open (ByTaker q Sell) is Sell p r x y e = same_orders Sell p r x y e

  same_leader : (step : Step) → IsStep b step → (s : Side) (p r : Proposal) → Leads rank f b step s p → Leads rank f b step s r → p ≡ r
  same_leader step is s p r x y =
      ⊎_elim (λ e. same_open step is s p r x.is_open y.is_open e)
      (λ n. true_false (rank s p r) (x.ahead r y.is_open (λ e. n (sym e)))
      (L.one s p r n ∙ ap not (y.ahead p x.is_open n)))
      (cases_eq p.number r.number)

  -- ---- two that lead and meet

  record Clash (step : Step) (buying selling : Proposal) : Type 0 where
    running : b.halted ≡ false
    is_step : IsStep b step
    buys : Leads rank f b step Buy buying
    sells : Leads rank f b step Sell selling
    cross : selling.price ≤ buying.price

  -- where nothing could trade nobody meets
  loud : (step : Step) (buying selling : Proposal) → Clash step buying selling → (b.halted ≡ false → Quiet b.table.rows b.quote) → ⊥
  loud (ByTaker q s) buying selling c k =
      let h = c.is_step.1 in
      true_false (reaches q h.order s) h.reaching
      (subst (λ z. reaches q h.order z ≡ false) h.side ((k c.running).unreached q h.place h.order c.is_step.0 h.stands))
  loud ByPair buying selling c k =
      let x = c.buys.is_open in
      let y = c.sells.is_open in
      omega (
        arith,
        (k c.running).apart x.place y.place x.order y.order x.stands y.stands x.side y.side,
        ap (λ z. z.price) x.is,
        ap (λ z. z.price) y.is,
        c.cross,
      )

-- ---- what comes of them

pub data What : Type 0 where
  Wrote : Slip → What
  Asking : ℕ → What
  Nothing : What

abbrev pub what : Move → What
what Stop = Nothing
what (Ask t) = Asking t
what (Deal x y p n) = Wrote (traded x y p n)
what (Strike c x) = Wrote (gone c x)
what (Halt x) = Wrote (gone BeyondLimit x)

-- the number that a slip gives a proposal
abbrev slip_number : Quote → Proposal → ℕ
slip_number q p = cond (eqb p.number q.number) 0 p.number

abbrev takes : Frame → Quote → Proposal → Proposal → Slip → What
takes f q taker partner trade =
    cond (eqb partner.number q.number && (q.flagged && f.entered)) (Asking taker.number)
    (cond (in_limit f partner.price) (Wrote trade) (Wrote (Out BeyondLimit taker.number taker.pieces)))

abbrev later : Proposal → Proposal → Proposal
later buying selling = cond (ltb buying.number selling.number) selling buying

abbrev judged : Frame → Step → Proposal → Proposal → What
judged f (ByTaker q Buy) x y = takes f q x y (Trade y.price (min x.pieces y.pieces) (slip_number q x) (slip_number q y))
judged f (ByTaker q Sell) x y = takes f q y x (Trade x.price (min x.pieces y.pieces) (slip_number q x) (slip_number q y))
judged f ByPair x y =
    cond (in_quote f (price_by ByPair x y))
    (cond (in_limit f (price_by ByPair x y)) (Wrote (Trade (price_by ByPair x y) (min x.pieces y.pieces) x.number y.number))
    (Wrote (Out BeyondLimit (later x y).number (later x y).pieces)))
    (Wrote (Out OutsideQuote (later x y).number (later x y).pieces))

module _ (rank : Rank) (L : RankLaw rank) (f : Frame) (b : Board) (S : Sound f b) where
  record Verdict (w : What) : Type 0 where
    step : Step
    buying : Proposal
    selling : Proposal
    clash : Clash rank L f b S step buying selling
    is : w ≡ judged f step buying selling

  same_verdict : (v w : What) → Verdict v → Verdict w → v ≡ w
  same_verdict v w x y =
      let st : x.step ≡ y.step = same_step rank L f b S x.step y.step x.clash.is_step y.clash.is_step in
      let bu : x.buying ≡ y.buying = same_leader rank L f b S y.step y.clash.is_step Buy x.buying y.buying
      (subst (λ z. Leads rank f b z Buy x.buying) st x.clash.buys) y.clash.buys in
      let se : x.selling ≡ y.selling = same_leader rank L f b S y.step y.clash.is_step Sell x.selling y.selling
      (subst (λ z. Leads rank f b z Sell x.selling) st x.clash.sells) y.clash.sells in
      x.is ∙ (λ i. judged f (st i) (bu i) (se i)) ∙ sym y.is

  -- ---- a trade

  party_zero : (q : Quote) → b.quote ≡ Some q → (s : Side) (n : ℕ) (p : Proposal) → IsParty b s n p → p.number ≡ q.number → n ≡ 0
  party_zero q is s n p (inl h) e = h.0
  party_zero q is s n p (inr h) e = absurd (not_quote rank L f b S q is s p h.0 e)

  slip_number_lem : (q : Quote) → b.quote ≡ Some q → (s : Side) (n : ℕ) (p : Proposal) → IsParty b s n p → n ≡ slip_number q p
  slip_number_lem q is s n p (inl h) =
      let same : h.1.0 ≡ q = cc (is, h.1.1) in
      let e : p.number ≡ q.number = ap (λ z. z.number) h.1.2 ∙ side_number rank L f b S h.1.0 s ∙ ap (λ z. z.number) same in
      h.0 ∙ sym (cond-true (eqb p.number q.number) 0 p.number (eq-eqb _ _ e))
  slip_number_lem q is s n p (inr h) =
      sym (cond-false (eqb p.number q.number) 0 p.number (ne_eqb _ _ (not_quote rank L f b S q is s p h.0)) ∙ order_number rank L f b S s p h.0 ∙ h.1)

  order_slip : (s : Side) (n : ℕ) (p : Proposal) → IsParty b s n p → IsOrder b s p → n ≡ p.number
  order_slip s n p (inl h) w =
      absurd (not_quote rank L f b S h.1.0 h.1.1 s p w (ap (λ z. z.number) h.1.2 ∙ side_number rank L f b S h.1.0 s))
  order_slip s n p (inr h) w = sym (order_number rank L f b S s p h.0 ∙ h.1)

  unasked_by : (q : Quote) → b.quote ≡ Some q → (p : Proposal) → (p.number ≡ q.number → (q.flagged && f.entered) ≡ false) →
      (eqb p.number q.number && (q.flagged && f.entered)) ≡ false
  unasked_by q is p h =
      ⊎_elim (λ e. and_right _ _ (h (eqb-true _ _ e))) (λ e. and_left _ _ e) (cases_Bool (eqb p.number q.number))

  fair_is : (step : Step) → IsStep b step → (price pieces buyer seller : ℕ) →
      (X : Served rank f b step price Buy buyer) (Y : Served rank f b step price Sell seller) →
      price ≡ price_by step X.party Y.party → in_quote f price ≡ true → in_limit f price ≡ true → pieces ≡ min X.party.pieces Y.party.pieces →
      Wrote (Trade price pieces buyer seller) ≡ judged f step X.party Y.party
  fair_is (ByTaker q Buy) is price pieces buyer seller X Y e i l m =
      let x = slip_number_lem q is.0 Buy buyer X.party X.stands in
      let y = slip_number_lem q is.0 Sell seller Y.party Y.stands in
      (λ i. Wrote (Trade (e i) (m i) (x i) (y i)))
      ∙ sym (cond-false (eqb Y.party.number q.number && (q.flagged && f.entered)) _ _
      (unasked_by q is.0 Y.party (λ z. Y.unasked (party_zero q is.0 Sell seller Y.party Y.stands z) q is.0))
      ∙ cond-true (in_limit f Y.party.price) _ _ (subst (λ z. in_limit f z ≡ true) e l))
  fair_is (ByTaker q Sell) is price pieces buyer seller X Y e i l m =
      let x = slip_number_lem q is.0 Buy buyer X.party X.stands in
      let y = slip_number_lem q is.0 Sell seller Y.party Y.stands in
      (λ i. Wrote (Trade (e i) (m i) (x i) (y i)))
      ∙ sym (cond-false (eqb X.party.number q.number && (q.flagged && f.entered)) _ _
      (unasked_by q is.0 X.party (λ z. X.unasked (party_zero q is.0 Buy buyer X.party X.stands z) q is.0))
      ∙ cond-true (in_limit f X.party.price) _ _ (subst (λ z. in_limit f z ≡ true) e l))
  fair_is ByPair is price pieces buyer seller X Y e i l m =
      let x = order_slip Buy buyer X.party X.stands X.leads.is_open in
      let y = order_slip Sell seller Y.party Y.stands Y.leads.is_open in
      (λ i. Wrote (Trade (e i) (m i) (x i) (y i)))
      ∙ sym (cond-true (in_quote f (price_by ByPair X.party Y.party)) _ _ (subst (λ z. in_quote f z ≡ true) e i)
      ∙ cond-true (in_limit f (price_by ByPair X.party Y.party)) _ _ (subst (λ z. in_limit f z ≡ true) e l))

  from_trade : (price pieces buyer seller : ℕ) → Fair rank f b price pieces buyer seller → Verdict (Wrote (Trade price pieces buyer seller))
  from_trade price pieces buyer seller F =
      record {
        step = F.step;
        buying = F.buys.party;
        selling = F.sells.party;
        clash = record {
          running = F.running;
          is_step = F.is_step;
          buys = F.buys.leads;
          sells = F.sells.leads;
          cross = omega (arith, F.buys.keeps, F.sells.keeps);
        };
        is = fair_is F.step F.is_step price pieces buyer seller F.buys F.sells F.priced
            (and_from _ _ (le-leb _ _ F.from_bid) (le-leb _ _ F.to_ask)) F.in_limit F.smaller;
      }

  -- ---- an order that goes out while another meets it

  abbrev buyer_of : Side → Proposal → Proposal → Proposal
  buyer_of Buy mine other = mine
  buyer_of Sell mine other = other

  abbrev seller_of : Side → Proposal → Proposal → Proposal
  seller_of Buy mine other = other
  seller_of Sell mine other = mine

  meets_clash : (s : Side) (o : Order) (other : Proposal) → o.side ≡ s → (M : Meets rank f b o other) →
      Clash rank L f b S M.step (buyer_of s (proposal o) other) (seller_of s (proposal o) other)
  meets_clash Buy o other e M =
      record {
        running = M.running;
        is_step = M.is_step;
        buys = subst (λ z. Leads rank f b M.step z (proposal o)) e M.leads;
        sells = subst (λ z. Leads rank f b M.step (opposite z) other) e M.other_leads;
        cross = subst (λ z. Keeps z other.price o.price) e M.keeps;
      }
  meets_clash Sell o other e M =
      record {
        running = M.running;
        is_step = M.is_step;
        buys = subst (λ z. Leads rank f b M.step (opposite z) other) e M.other_leads;
        sells = subst (λ z. Leads rank f b M.step z (proposal o)) e M.leads;
        cross = subst (λ z. Keeps z other.price o.price) e M.keeps;
      }

  elder_price : (s : Side) (t r : Proposal) → r.number < t.number → price_by ByPair (buyer_of s t r) (seller_of s t r) ≡ r.price
  elder_price Buy t r h = cond-false (ltb t.number r.number) _ _ (le-ltb _ _ (omega arith))
  elder_price Sell t r h = cond-true (ltb r.number t.number) _ _ (lt-ltb _ _ h)

  later_is : (s : Side) (t r : Proposal) → r.number < t.number → later (buyer_of s t r) (seller_of s t r) ≡ t
  later_is Buy t r h = cond-false (ltb t.number r.number) _ _ (le-ltb _ _ (omega arith))
  later_is Sell t r h = cond-true (ltb r.number t.number) _ _ (lt-ltb _ _ h)

  outside_is : (s : Side) (t r : Proposal) → r.number < t.number → in_quote f r.price ≡ false →
      Wrote (Out OutsideQuote t.number t.pieces) ≡ judged f ByPair (buyer_of s t r) (seller_of s t r)
  outside_is s t r h i =
      sym (cond-false (in_quote f (price_by ByPair (buyer_of s t r) (seller_of s t r))) _ _ (subst (λ z. in_quote f z ≡ false) (sym (elder_price s t r h)) i)
      ∙ ap (λ z. Wrote (Out OutsideQuote z.number z.pieces)) (later_is s t r h))

  pair_beyond : (s : Side) (t r : Proposal) → r.number < t.number → in_quote f r.price ≡ true → in_limit f r.price ≡ false →
      Wrote (Out BeyondLimit t.number t.pieces) ≡ judged f ByPair (buyer_of s t r) (seller_of s t r)
  pair_beyond s t r h i l =
      let e = sym (elder_price s t r h) in
      sym (cond-true (in_quote f (price_by ByPair (buyer_of s t r) (seller_of s t r))) _ _ (subst (λ z. in_quote f z ≡ true) e i)
      ∙ cond-false (in_limit f (price_by ByPair (buyer_of s t r) (seller_of s t r))) _ _ (subst (λ z. in_limit f z ≡ false) e l)
      ∙ ap (λ z. Wrote (Out BeyondLimit z.number z.pieces)) (later_is s t r h))

  taker_beyond : (q : Quote) → b.quote ≡ Some q → (t r : Proposal) (trade : Slip) → in_limit f r.price ≡ false →
      (r.number ≡ q.number → (q.flagged && f.entered) ≡ false) → Wrote (Out BeyondLimit t.number t.pieces) ≡ takes f q t r trade
  taker_beyond q is t r trade l u =
      sym (cond-false (eqb r.number q.number && (q.flagged && f.entered)) _ _ (unasked_by q is r u) ∙ cond-false (in_limit f r.price) _ _ l)

  beyond_is : (step : Step) → IsStep b step → (s : Side) (o : Order) (r : Proposal) → o.side ≡ s → Loses step o r →
      in_quote f r.price ≡ true →
      in_limit f r.price ≡ false → ((q : Quote) → b.quote ≡ Some q → r.number ≡ q.number → (q.flagged && f.entered) ≡ false) →
      Wrote (Out BeyondLimit o.ticket o.pieces) ≡ judged f step (buyer_of s (proposal o) r) (seller_of s (proposal o) r)
  beyond_is ByPair is s o r e h i l u = pair_beyond s (proposal o) r h i l
  beyond_is (ByTaker q Buy) is Buy o r e h i l u = taker_beyond q is.0 (proposal o) r _ l (u q is.0)
  beyond_is (ByTaker q Sell) is Sell o r e h i l u = taker_beyond q is.0 (proposal o) r _ l (u q is.0)
  beyond_is (ByTaker q Buy) is Sell o r e h i l u = let z : ◌≡◌ {A = ℕ} 0 1 = cc (e, h) in absurd (omega arith)
  beyond_is (ByTaker q Sell) is Buy o r e h i l u = let z : ◌≡◌ {A = ℕ} 0 1 = cc (e, h) in absurd (omega arith)

  from_outside : (o : Order) → Outside rank f b o → Verdict (Wrote (Out OutsideQuote o.ticket o.pieces))
  from_outside o W =
      record {
        step = W.meets.step;
        buying = buyer_of o.side (proposal o) (proposal W.other);
        selling = seller_of o.side (proposal o) (proposal W.other);
        clash = meets_clash o.side o (proposal W.other) refl W.meets;
        is = outside_is o.side (proposal o) (proposal W.other) W.later W.outside
            ∙ ap (λ z. judged f z (buyer_of o.side (proposal o) (proposal W.other)) (seller_of o.side (proposal o) (proposal W.other))) (sym W.pair);
      }

  from_beyond : (o : Order) → Beyond rank f b o → Verdict (Wrote (Out BeyondLimit o.ticket o.pieces))
  from_beyond o W =
      record {
        step = W.meets.step;
        buying = buyer_of o.side (proposal o) W.other;
        selling = seller_of o.side (proposal o) W.other;
        clash = meets_clash o.side o W.other refl W.meets;
        is = beyond_is W.meets.step W.meets.is_step o.side o W.other refl W.loses W.inside W.beyond W.unasked;
      }

  -- ---- a quote that is asked

  asking : (s : Side) (q : Quote) (o : Order) → b.halted ≡ false → IsStep b (ByTaker q s) → Leads rank f b (ByTaker q s) s (proposal o) →
      Leads rank f b (ByTaker q s) (opposite s) (side_of q (opposite s)) → reaches q o s ≡ true → (q.flagged && f.entered) ≡ true → Verdict (Asking o.ticket)
  asking Buy q o up is x y r e =
      record {
        step = ByTaker q Buy;
        buying = proposal o;
        selling = side_of q Sell;
        clash = record { running = up; is_step = is; buys = x; sells = y; cross = leb-true _ _ r };
        is = sym (cond-true (eqb q.number q.number && (q.flagged && f.entered)) _ _ (and_from _ _ (eq-eqb _ _ refl) e));
      }
  asking Sell q o up is x y r e =
      record {
        step = ByTaker q Sell;
        buying = side_of q Buy;
        selling = proposal o;
        clash = record { running = up; is_step = is; buys = y; sells = x; cross = leb-true _ _ r };
        is = sym (cond-true (eqb q.number q.number && (q.flagged && f.entered)) _ _ (and_from _ _ (eq-eqb _ _ refl) e));
      }

  from_asked : (t : ℕ) → Asked rank f b t → Verdict (Asking t)
  from_asked t A =
      subst (λ z. Verdict (Asking z)) A.named
      (asking A.side A.quote A.order A.running A.is_step A.leads A.quote_leads A.reaching (and_from _ _ A.flagged A.entered))

  -- ---- all that a moment can say

  record LastOut (w : What) : Type 0 where
    place : ℕ
    order : Order
    stands : At b.table.rows place order
    left : LeftOver b order
    is : w ≡ Wrote (Out Expired order.ticket order.pieces)

  record AtRest (w : What) : Type 0 where
    over : b.halted ≡ false → Quiet b.table.rows b.quote
    none : (i : ℕ) (o : Order) → At b.table.rows i o → o.brief ≡ false
    is : w ≡ Nothing

  abbrev Says : What → Type 0
  Says w = Verdict w ⊎ (LastOut w ⊎ AtRest w)

  same_last : (v w : What) → LastOut v → LastOut w → v ≡ w
  same_last v w x y =
      let e : x.order ≡ y.order = ⊎_elim
      (λ e. same_order b.table.rows S.rows.distinct x.place y.place x.order y.order x.stands y.stands e)
      (λ n. absurd (omega (
        arith,
        x.left.lowest y.place y.order y.stands y.left.brief (λ z. n (sym z)),
        y.left.lowest x.place x.order x.stands x.left.brief n,
      )))
      (cases_eq x.order.ticket y.order.ticket) in
      x.is ∙ ap (λ z. Wrote (Out Expired z.ticket z.pieces)) e ∙ sym y.is

  never : {A : Type 0} (v : What) → Verdict v → (b.halted ≡ false → Quiet b.table.rows b.quote) → A
  never v x k = absurd (loud rank L f b S x.step x.buying x.selling x.clash k)

  same_says : (v w : What) → Says v → Says w → v ≡ w
  same_says v w (inl x) (inl y) = same_verdict v w x y
  same_says v w (inl x) (inr (inl y)) = never v x y.left.over
  same_says v w (inl x) (inr (inr y)) = never v x y.over
  same_says v w (inr (inl x)) (inl y) = never w y x.left.over
  same_says v w (inr (inr x)) (inl y) = never w y x.over
  same_says v w (inr (inl x)) (inr (inl y)) = same_last v w x y
  same_says v w (inr (inl x)) (inr (inr y)) = true_false _ x.left.brief (y.none x.place x.order x.stands)
  same_says v w (inr (inr x)) (inr (inl y)) = true_false _ y.left.brief (x.none y.place y.order y.stands)
  same_says v w (inr (inr x)) (inr (inr y)) = x.is ∙ sym y.is

  gone_says : (cause : Cause) (place : ℕ) (o : Order) → At b.table.rows place o → Why rank f b cause o →
      Says (Wrote (Out cause o.ticket o.pieces))
  gone_says Cancelled place o a w = absurd w
  gone_says OutsideQuote place o a w = inl (from_outside o w)
  gone_says Expired place o a w = inr (inl (record { place = place; order = o; stands = a; left = w; is = refl }))
  gone_says BeyondLimit place o a w = inl (from_beyond o w)

  slip_says : (s : Slip) → FairSlip rank f b s → Says (Wrote s)
  slip_says (Trade price pieces buyer seller) h = inl (from_trade price pieces buyer seller h)
  slip_says (Out cause ticket pieces) h =
      subst (λ z. Says (Wrote (Out cause ticket z))) h.all
      (subst (λ z. Says (Wrote (Out cause z h.order.pieces))) h.named (gone_says cause h.place h.order h.stands h.why))

  asked_says : (t : ℕ) → Asked rank f b t → Says (Asking t)
  asked_says t h = inl (from_asked t h)

  good_says : (m : Move) → Good rank f b m → Says (what m)
  good_says Stop g = inr (inr (record { over = g.0; none = g.1; is = refl }))
  good_says (Ask t) g = asked_says t g
  good_says (Deal x y p n) g = inl (from_trade _ _ _ _ g.1)
  good_says (Strike c x) g = gone_says c x.place x.order g.1 g.2
  good_says (Halt x) g = inl (from_beyond x.order g.1)

  -- a good move writes the slip that is fair, asks where the quote is to be asked, and is none where all is at rest
  pub writes_it : (m : Move) → Good rank f b m → (s : Slip) → FairSlip rank f b s → what m ≡ Wrote s
  writes_it m g s h = same_says (what m) (Wrote s) (good_says m g) (slip_says s h)

  pub rests_it : (m : Move) → Good rank f b m → (b.halted ≡ false → Quiet b.table.rows b.quote) →
      ((i : ℕ) (o : Order) → At b.table.rows i o → o.brief ≡ false) → what m ≡ Nothing
  rests_it m g k n = same_says (what m) Nothing (good_says m g) (inr (inr (record { over = k; none = n; is = refl })))

  pub asks_it : (m : Move) → Good rank f b m → (t : ℕ) → Asked rank f b t → what m ≡ Asking t
  asks_it m g t h = same_says (what m) (Asking t) (good_says m g) (asked_says t h)
