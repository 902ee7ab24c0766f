-- What a board is after one party of a trade is lowered, or one order is gone.
use Rattle.std.proofs.Common.{◌≡◌, ℕ, ◌+◌, ◌<◌, ◌≤◌, Bool, true, false, cond, eqb, ltb, ◌≢◌, map, get_or, set, Some, None, Option, sym, refl, ap, ◌∙◌, subst, arith}
use Rattle.std.proofs.lemmas.Bool.{cond_both, cond-true, cond-false, ne_eqb, eq-eqb, le-ltb, ltb-true}
use Rattle.std.proofs.lemmas.List.{get_or-set_other}
use Rattle.book.specs.Sides.{Side, Buy, Sell}
use Rattle.book.specs.Proposals.{Order, Quote, Proposal, side_of}
use Rattle.book.specs.Tables.{Rows, At, lower, lower_quote, left, standing}
use Rattle.book.specs.Firsts.{Found}
use Rattle.book.specs.Moves.{Board, Frame, Party}
use Rattle.book.specs.Makes.{board_of, on_quote, lower_party, number}
use Rattle.book.specs.Moments.{fewer, without, delivers}
use Rattle.book.specs.Sound.{Sound}
use Rattle.book.specs.Lowered.{LoweredQuote, KeepsQuote}
use Rattle.book.specs.CrossLaws.{quotes}
use Rattle.book.proofs.Bests.{none_some, inside}
use Rattle.book.proofs.GoodMoves.{PartyAt, Apart}
use Rattle.book.proofs.RowChanges.{Shrunk, shrunk_self, shrunk_chain, set_shrunk, lower_follows, lowered_left}
use Rattle.book.proofs.RowChanges.{set_standing, one_le, lower_none, map_same, map_one}

-- ---- the quote

pub record FollowsQuote (new old : Quote) : Type 0 where
  pub lowered : LoweredQuote new old
  pub some_bid : 1 ≤ old.bid_pieces → 1 ≤ new.bid_pieces
  pub some_ask : 1 ≤ old.ask_pieces → 1 ≤ new.ask_pieces

quote_self : (q : Quote) → FollowsQuote q q
quote_self q =
    record {
      lowered = record { number = refl; bid = refl; ask = refl; flagged = refl; bid_pieces = omega arith; ask_pieces = omega arith };
      some_bid = λ k. k;
      some_ask = λ k. k;
    }

pub lowered_quote_chain : (a b c : Quote) → LoweredQuote a b → LoweredQuote b c → LoweredQuote a c
lowered_quote_chain a b c x y =
    record {
      number = x.number ∙ y.number;
      bid = x.bid ∙ y.bid;
      ask = x.ask ∙ y.ask;
      flagged = x.flagged ∙ y.flagged;
      bid_pieces = omega (arith, x.bid_pieces, y.bid_pieces);
      ask_pieces = omega (arith, x.ask_pieces, y.ask_pieces);
    }

quote_chain : (a b c : Quote) → FollowsQuote a b → FollowsQuote b c → FollowsQuote a c
quote_chain a b c x y =
    record {
      lowered = lowered_quote_chain a b c x.lowered y.lowered;
      some_bid = λ k. x.some_bid (y.some_bid k);
      some_ask = λ k. x.some_ask (y.some_ask k);
    }

abbrev pub Kept : Option Quote → Option Quote → Type 0
Kept new old = (q : Quote) → new ≡ Some q → (was : Quote) × (old ≡ Some was) × FollowsQuote q was

pub keeps_by : (new old : Option Quote) → Kept new old → KeepsQuote new old
keeps_by new old k q e = let x = k q e in (x.0, x.1, x.2.lowered)

pub kept_self : (o : Option Quote) → Kept o o
kept_self o q e = (q, e, quote_self q)

pub kept_none : (o : Option Quote) → Kept None o
kept_none o q e = none_some q e

kept_chain : (a b c : Option Quote) → Kept a b → Kept b c → Kept a c
kept_chain a b c f g q e =
    let x = f q e in
    let y = g x.0 x.1 in
    (y.0, y.1, quote_chain q x.0 y.0 x.2 y.2)

kept_cond : (v : Bool) (new q : Quote) → (v ≡ true → FollowsQuote new q) → Kept (cond v (Some new) None) (Some q)
kept_cond true new q s q' e = let k : new ≡ q' = cc in (q, refl, subst (λ z. FollowsQuote z q) k (s refl))
kept_cond false new q s q' e = none_some q' e

kept_lowered : (s : Side) (n : ℕ) (o : Option Quote) → Kept (on_quote (lower_quote s n) o) o
kept_lowered s n None = kept_none None
kept_lowered Buy n (Some q) =
    kept_cond (ltb n q.bid_pieces) _ q
    (λ e. record {
      lowered = record { number = refl; bid = refl; ask = refl; flagged = refl; bid_pieces = omega arith; ask_pieces = omega arith };
      some_bid = λ _. omega (arith, ltb-true n q.bid_pieces e);
      some_ask = λ k. k;
    })
kept_lowered Sell n (Some q) =
    kept_cond (ltb n q.ask_pieces) _ q
    (λ e. record {
      lowered = record { number = refl; bid = refl; ask = refl; flagged = refl; bid_pieces = omega arith; ask_pieces = omega arith };
      some_bid = λ k. k;
      some_ask = λ _. omega (arith, ltb-true n q.ask_pieces e);
    })

one_quote : (s : Side) (n : ℕ) (q : Quote) → quotes (lower_quote s n q) ≤ 1
one_quote Buy n q = cond_both (ltb n q.bid_pieces) _ _ (λ z. quotes z ≤ 1) (λ _. omega arith) (λ _. omega arith)
one_quote Sell n q = cond_both (ltb n q.ask_pieces) _ _ (λ z. quotes z ≤ 1) (λ _. omega arith) (λ _. omega arith)

no_quote : (s : Side) (n : ℕ) (q : Quote) → (side_of q s).pieces ≤ n → quotes (lower_quote s n q) ≡ 0
no_quote Buy n q k = rw (le-ltb n q.bid_pieces k)
no_quote Sell n q k = rw (le-ltb n q.ask_pieces k)

dark_kept : (a b : Option Quote) → Kept a b → b ≡ None → a ≡ None
dark_kept None b k e = refl
dark_kept (Some q) b k e = let x = k q refl in none_some x.0 (sym e ∙ x.1)

-- ---- a board that has less

-- how many orders and quotes stand
abbrev pub many : Board → ℕ
many b = standing b.table.rows + quotes b.quote

pub record Less (new old : Board) : Type 0 where
  pub rows : Shrunk new.table.rows old.table.rows
  pub quote : Kept new.quote old.quote
  pub dark : (old.halted ≡ true → old.quote ≡ None) → new.halted ≡ true → new.quote ≡ None
  pub few : standing new.table.rows ≤ standing old.table.rows

pub less_self : (b : Board) → Less b b
less_self b = record { rows = shrunk_self b.table.rows; quote = kept_self b.quote; dark = λ h. h; few = omega arith }

pub less_chain : (a b c : Board) → Less a b → Less b c → Less a c
less_chain a b c x y =
    record {
      rows = shrunk_chain a.table.rows b.table.rows c.table.rows x.rows y.rows;
      quote = kept_chain a.quote b.quote c.quote x.quote y.quote;
      dark = λ h. x.dark (y.dark h);
      few = omega (arith, x.few, y.few);
    }

pub sound_less : (f : Frame) (new old : Board) → Less new old → Sound f old → Sound f new
sound_less f new old l S =
    record {
      rows = record {
        distinct = λ i j o p a b e.
            let x = l.rows i o a in
            let y = l.rows j p b in
            S.rows.distinct i j x.0 y.0 x.1 y.1 (sym x.2.lowered.ticket ∙ e ∙ y.2.lowered.ticket);
        named = λ i o a e. let x = l.rows i o a in S.rows.named i x.0 x.1 (sym x.2.lowered.ticket ∙ e);
        some = λ i o a. let x = l.rows i o a in x.2.some (S.rows.some i x.0 x.1);
        few = omega (arith, l.few, S.rows.few);
      };
      quote = λ q e.
          let x = l.quote q e in
          let h = S.quote x.0 x.1 in
          record {
            same_bid = x.2.lowered.bid ∙ h.same_bid;
            same_ask = x.2.lowered.ask ∙ h.same_ask;
            in_order = omega (arith, x.2.lowered.bid, x.2.lowered.ask, h.in_order);
            some_bid = x.2.some_bid h.some_bid;
            some_ask = x.2.some_ask h.some_ask;
            apart = λ i o a z. let y = l.rows i o a in h.apart i y.0 y.1 (sym y.2.lowered.ticket ∙ z ∙ x.2.lowered.number);
          };
      halted_dark = l.dark S.halted_dark;
    }

-- ---- one party is lowered

module _ (s : Side) (n : ℕ) (b : Board) where
  pub party_less : (x : Party) (p : Proposal) → PartyAt b s x p → Less (lower_party s n x b) b
  party_less (Some x) p h =
      record {
        rows = set_shrunk b.table.rows x.place (lower n x.order) x.order h.0 (lower_follows n x.order);
        quote = kept_self b.quote;
        dark = λ k. k;
        few = omega (arith, set_standing b.table.rows x.place (lower n x.order) x.order h.0, one_le (lower n x.order));
      }
  party_less None p h =
      record {
        rows = shrunk_self b.table.rows;
        quote = kept_lowered s n b.quote;
        dark = λ k e. dark_kept _ b.quote (kept_lowered s n b.quote) (k e);
        few = omega arith;
      }

  pub party_left : (t : ℕ) → t ≢ 0 → (x : Party) (p : Proposal) → PartyAt b s x p → n ≤ p.pieces →
      left t (lower_party s n x b).table.rows + cond (eqb (number x) t) n 0 ≡ left t b.table.rows
  party_left t z (Some x) p h le =
      lowered_left t n b.table.rows x.place x.order h.0 (omega (arith, le, ap (λ v. v.pieces) h.2))
  party_left t z None p h le = omega (arith, cond-false (eqb 0 t) n 0 (ne_eqb 0 t (λ e. z (sym e))))

  pub party_many : (x : Party) (p : Proposal) → PartyAt b s x p → many (lower_party s n x b) ≤ many b
  party_many (Some x) p h =
      omega (arith, set_standing b.table.rows x.place (lower n x.order) x.order h.0, one_le (lower n x.order))
  party_many None p h = let is = h.1 in rw is (omega (arith, one_quote s n h.0))

  pub party_fewer : (x : Party) (p : Proposal) → PartyAt b s x p → p.pieces ≤ n → many (lower_party s n x b) < many b
  party_fewer (Some x) p h le =
      let k : x.order.pieces ≤ n = omega (arith, le, ap (λ v. v.pieces) h.2) in
      omega (arith, set_standing b.table.rows x.place (lower n x.order) x.order h.0, lower_none n x.order k)
  party_fewer None p h le =
      let is = h.1 in
      let k : (side_of h.0 s).pieces ≤ n = omega (arith, le, ap (λ v. v.pieces) h.2) in
      rw is (omega (arith, no_quote s n h.0 k))

-- the other party is still there
pub party_after : (n : ℕ) (b : Board) (x y : Party) (p r : Proposal) → PartyAt b Buy x p → PartyAt b Sell y r → Apart x y →
    PartyAt (lower_party Buy n x b) Sell y r
party_after n b (Some x) (Some y) p r hx hy d =
    (get_or-set_other b.table.rows x.place y.place (lower n x.order) None places ∙ hy.0, hy.1, hy.2)
  where
    places : y.place ≢ x.place
    places e =
        let a : get_or b.table.rows x.place None ≡ Some y.order = rw e at hy.0 in
        let k : x.order ≡ y.order = cc (a, hx.0) in
        let m : Buy ≡ Sell = sym hx.1 ∙ ap (λ z. z.side) k ∙ hy.1 in
        let z : ◌≡◌ {A = ℕ} 0 1 = cc in omega arith
party_after n b (Some x) None p r hx hy d = hy
party_after n b None (Some y) p r hx hy d = hy
party_after n b None None p r hx hy d = absurd d

-- ---- the same, read from the slip

untouched : (g : Option Order → Option Order) → g None ≡ None → (rows : Rows) (k : ℕ) → ((o : Order) → At rows k o → g (Some o) ≡ Some o) →
    g (get_or rows k None) ≡ get_or rows k None
untouched g e rows k h = go (get_or rows k None) refl
  where
    go : (v : Option Order) → get_or rows k None ≡ v → g v ≡ v
    go None _ = e
    go (Some o) a = h o a

boards : (rows rows' : Rows) (q q' : Option Quote) (halted : Bool) → rows ≡ rows' → q ≡ q' → board_of rows q halted ≡ board_of rows' q' halted
boards rows rows' q q' halted e k = λ i. board_of (e i) (k i) halted

module _ (f : Frame) (b : Board) (S : Sound f b) where
  other_ticket : (x : Found) → At b.table.rows x.place x.order → (k : ℕ) → k ≢ x.place → (o : Order) → At b.table.rows k o →
      eqb o.ticket x.order.ticket ≡ false
  other_ticket x a k n o h = ne_eqb _ _ (λ e. n (S.rows.distinct k x.place o x.order h a e))

  pub party_told : (s : Side) (n : ℕ) (x : Party) (p : Proposal) → PartyAt b s x p → delivers s (number x) n b ≡ lower_party s n x b
  party_told s n (Some x) p h =
      boards _ _ _ _ b.halted
      (map_one (fewer x.order.ticket n) refl b.table.rows x.place _ (inside b.table.rows x.place x.order h.0)
      (rw h.0 (cond-true (eqb x.order.ticket x.order.ticket) _ _ (eq-eqb _ _ refl)))
      (λ k d. untouched (fewer x.order.ticket n) refl b.table.rows k (λ o a. cond-false _ _ _ (other_ticket x h.0 k d o a))))
      (cond-false (eqb x.order.ticket 0) _ _ (ne_eqb _ _ (S.rows.named _ _ h.0)))
  party_told s n None p h =
      boards _ _ _ _ b.halted
      (map_same (fewer 0 n) b.table.rows
      (λ k. untouched (fewer 0 n) refl b.table.rows k (λ o a. cond-false _ _ _ (ne_eqb o.ticket 0 (S.rows.named k o a)))))
      refl

  pub gone_told : (x : Found) → At b.table.rows x.place x.order →
      map (without x.order.ticket) b.table.rows ≡ set b.table.rows x.place None
  gone_told x a =
      map_one (without x.order.ticket) refl b.table.rows x.place _ (inside b.table.rows x.place x.order a)
      (rw a (cond-true (eqb x.order.ticket x.order.ticket) _ _ (eq-eqb _ _ refl)))
      (λ k d. untouched (without x.order.ticket) refl b.table.rows k (λ o h. cond-false _ _ _ (other_ticket x a k d o h)))
