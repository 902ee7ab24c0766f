-- Step B: the first buy and the first sell.
use Rattle.std.proofs.Common.{◌≡◌, ℕ, ◌<◌, ◌≤◌, min, Bool, true, false, cond, not, ltb, leb, ◌≢◌, Some, None, Option, sym, refl, ap, ◌∙◌, subst, ⊎_elim, arith}
use Rattle.std.proofs.lemmas.Bool.{cases_eq, cases_Bool, cond_both, leb-true, leb-false, ltb-true, ltb-false, and_parts}
use Rattle.book.specs.Causes.{OutsideQuote}
use Rattle.book.specs.Sides.{Side, Buy, Sell}
use Rattle.book.specs.Proposals.{Order, proposal}
use Rattle.book.specs.Ranks.{Rank, RankLaw, better}
use Rattle.book.specs.Picks.{Any, beats, picked}
use Rattle.book.specs.Tables.{Rows, At}
use Rattle.book.specs.Firsts.{Found}
use Rattle.book.specs.Moves.{Board, Frame, Deal, Strike, Halt, in_limit, in_quote, sweep, elder, pairing, met, step_b}
use Rattle.book.specs.Opens.{ByPair, IsStep, Leads}
use Rattle.book.specs.Outs.{Meets}
use Rattle.book.specs.Sound.{Sound}
use Rattle.book.proofs.Bests.{Top, IsFirst, first_is, true_false, same_order}
use Rattle.book.proofs.GoodMoves.{Good, same_side_lem, side_same, not_better, cond_price, is_order, meets_from, served_row}
use Rattle.book.proofs.Tails.{sweeping}

module _ (rank : Rank) (L : RankLaw rank) (f : Frame) (b : Board) (S : Sound f b) (up : b.halted ≡ false) where
  abbrev rows : Rows
  rows = b.table.rows

  leads_pair : (s : Side) (x : Found) → Top (beats rank (Any s)) (picked (Any s)) rows x → Leads rank f b ByPair s (proposal x.order)
  leads_pair s x t =
      record {
        is_open = is_order b s x t.here (same_side_lem _ _ t.passes);
        ahead = λ other w n. rw w.is
            (t.first w.place w.order w.stands (side_same _ _ w.side) (λ k. n (ap (λ z. z.number) w.is ∙ k)));
      }

  module _ (calm : IsStep b ByPair) where
    still : ((i j : ℕ) (o p : Order) → At rows i o → At rows j p → o.side ≡ Buy → p.side ≡ Sell → o.price < p.price) →
        Good rank f b (sweep rank rows)
    still h = sweeping rank L f b S (λ _. record { apart = h; unreached = λ q i o e a. calm q e o.side i o a refl })

    module _ (x y : Found) (tx : Top (beats rank (Any Buy)) (picked (Any Buy)) rows x) (ty : Top (beats rank (Any Sell)) (picked (Any Sell)) rows y)
        (le : y.order.price ≤ x.order.price) where
      buys : x.order.side ≡ Buy
      buys = same_side_lem _ _ tx.passes

      sells : y.order.side ≡ Sell
      sells = same_side_lem _ _ ty.passes

      differ : x.order.ticket ≢ y.order.ticket
      differ e =
          let k : x.order ≡ y.order = same_order rows S.rows.distinct x.place y.place x.order y.order tx.here ty.here e in
          let m : Buy ≡ Sell = sym buys ∙ ap (λ z. z.side) k ∙ sells in
          let z : ◌≡◌ {A = ℕ} 0 1 = cc in omega arith

      abbrev buy_late : Meets rank f b x.order (proposal y.order)
      buy_late = meets_from rank f b up ByPair Buy x.order (proposal y.order) calm buys (leads_pair Buy x tx) (leads_pair Sell y ty) le

      abbrev sell_late : Meets rank f b y.order (proposal x.order)
      sell_late = meets_from rank f b up ByPair Sell y.order (proposal x.order) calm sells (leads_pair Sell y ty) (leads_pair Buy x tx) le

      outside : (v : Bool) → ltb x.order.ticket y.order.ticket ≡ v → in_quote f (cond v x y).order.price ≡ false →
          Good rank f b (Strike OutsideQuote (cond v y x))
      outside true e l = (refl, ty.here, record { other = x.order; meets = sell_late; pair = refl; later = ltb-true _ _ e; outside = l })
      outside false e l =
          (refl, tx.here, record { other = y.order; meets = buy_late; pair = refl; later = omega (arith, ltb-false _ _ e, differ); outside = l })

      halting : (v : Bool) → ltb x.order.ticket y.order.ticket ≡ v → in_quote f (cond v x y).order.price ≡ true →
          in_limit f (cond v x y).order.price ≡ false → Good rank f b (Halt (cond v y x))
      halting true e w l = (
        ty.here,
        record {
          other = proposal x.order;
          meets = sell_late;
          loses = ltb-true _ _ e;
          inside = w;
          beyond = l;
          unasked = λ q is k. absurd ((S.quote q is).apart _ _ tx.here k);
        },
      )
      halting false e w l = (
        tx.here,
        record {
          other = proposal y.order;
          meets = buy_late;
          loses = omega (arith, ltb-false _ _ e, differ);
          inside = w;
          beyond = l;
          unasked = λ q is k. absurd ((S.quote q is).apart _ _ ty.here k);
        },
      )

      abbrev price : ℕ
      price = (elder x y).order.price

      between : (price ≤ x.order.price) × (y.order.price ≤ price)
      between = cond_both (ltb x.order.ticket y.order.ticket) x y
          (λ z. (z.order.price ≤ x.order.price) × (y.order.price ≤ z.order.price)) (λ e. (omega arith, le)) (λ e. (le, omega arith))

      deals : in_quote f price ≡ true → in_limit f price ≡ true →
          Good rank f b (Deal (Some x) (Some y) price (min x.order.pieces y.order.pieces))
      deals e l = (
        record {
          buying = proposal x.order;
          selling = proposal y.order;
          buyer = (tx.here, buys, refl);
          seller = (ty.here, sells, refl);
          apart = tt;
          smaller = refl;
        },
        record {
          running = up;
          step = ByPair;
          is_step = calm;
          buys = served_row rank f b S ByPair price Buy x tx.here buys between.0 (leads_pair Buy x tx);
          sells = served_row rank f b S ByPair price Sell y ty.here sells between.1 (leads_pair Sell y ty);
          priced = cond_price (ltb x.order.ticket y.order.ticket) x y;
          from_bid = leb-true _ _ (and_parts _ _ e).0;
          to_ask = leb-true _ _ (and_parts _ _ e).1;
          in_limit = l;
          smaller = refl;
          some = omega (arith, S.rows.some _ _ tx.here, S.rows.some _ _ ty.here);
        },
      )

      meeting : Good rank f b (pairing f x y)
      meeting =
          cond_both (in_quote f price) _ _ (Good rank f b)
          (λ e. cond_both (in_limit f price) _ _ (Good rank f b) (λ l. deals e l) (λ l. halting (ltb x.order.ticket y.order.ticket) refl e l))
          (λ e. outside (ltb x.order.ticket y.order.ticket) refl e)

    no_worse : (s : Side) (x : Found) → Top (beats rank (Any s)) (picked (Any s)) rows x → (i : ℕ) (o : Order) → At rows i o → o.side ≡ s →
        better s o.price x.order.price ≡ false
    no_worse s x t i o a e = ⊎_elim (λ w. absurd (never w)) (λ w. w) (cases_Bool (better s o.price x.order.price))
      where
        never : better s o.price x.order.price ≡ true → ⊥
        never w =
            ⊎_elim
            (λ k. not_better s o.price
            (subst (λ z. better s o.price z.price ≡ true) (sym (same_order rows S.rows.distinct i x.place o x.order a t.here k)) w))
            (λ k. true_false _ (t.first i o a (side_same _ _ e) k)
            (L.one s (proposal x.order) (proposal o) (λ z. k (sym z)) ∙ ap not (L.better s (proposal o) (proposal x.order) w)))
            (cases_eq o.ticket x.order.ticket)

    meetings : (x y : Option Found) → IsFirst rank (Any Buy) rows x → IsFirst rank (Any Sell) rows y → Good rank f b (met rank f rows x y)
    meetings None y hx hy = still (λ i j o p a c u v. true_false _ (side_same _ _ u) (hx i o a))
    meetings (Some x) None hx hy = still (λ i j o p a c u v. true_false _ (side_same _ _ v) (hy j p c))
    meetings (Some x) (Some y) hx hy =
        cond_both (leb y.order.price x.order.price) _ _ (Good rank f b) (λ e. meeting x y hx hy (leb-true _ _ e))
        (λ e. still (λ i j o p a c u v.
        omega (arith, leb-false _ _ e, ltb-false _ _ (no_worse Buy x hx i o a u), ltb-false _ _ (no_worse Sell y hy j p c v))))

    pub paired : Good rank f b (step_b rank f rows)
    paired = meetings _ _ (first_is rank L (Any Buy) rows S.rows.distinct) (first_is rank L (Any Sell) rows S.rows.distinct)
