-- Each of the nine calls is a step that keeps the laws.
use Rattle.std.proofs.Common.{◌≡◌, ℕ, ◌+◌, ◌<◌, ◌≤◌, Bool, true, false, cond, eqb, leb, ◌≢◌, ◌⊎◌, List, [], ◌∷◌, map, set, is_some, Some, None, Ok, Err, sum_by, Option, sym, refl, ap, ◌∙◌, subst, inl, inr, ⊎_elim, arith}
use Rattle.std.proofs.lemmas.List.{length-set}
use Rattle.std.proofs.lemmas.List.Sums.{sum_by-set}
use Rattle.std.proofs.lemmas.Bool.{and_parts, cond_both, eqb-true, leb-false, leb-true, or_from}
use Rattle.figures.specs.declared.offer.Offer.{Offer}
use Rattle.book.specs.Firsts.{best, find, is_reached}
use Rattle.book.specs.Ledger.{out_by, traded_by}
use Rattle.book.specs.Makes.{board_of, gone, on_quote}
use Rattle.book.specs.Moments.{halts, without}
use Rattle.book.specs.Picks.{Owned, Reaching, earlier, picked, reaches}
use Rattle.book.specs.Ranks.{RankLaw}
use Rattle.book.specs.Tables.{At, Rows, left, place, lower_quote, standing, worth}
use Rattle.book.specs.declared.found.Found.{Found}
use Rattle.book.specs.declared.order.Order.{Order}
use Rattle.book.specs.declared.quote.Quote.{Quote}
use Rattle.book.specs.declared.side.Side.TheVariants.{Sell}
use Rattle.book.specs.declared.slip.Cause.TheVariants.{Cancelled}
use Rattle.book.specs.declared.slip.Slip.{Slip}
use Rattle.book.specs.declared.slip.Slip.TheVariants.{Trade, Out}
use Rattle.book.proofs.Bests.{IsFirst, Top, first_is, inside, none_some, true_false}
use Rattle.book.proofs.Parties.{gone_told}
use Rattle.book.proofs.RowChanges.{Shrunk, freed_left, set_shrunk, set_standing, shrinks_by, shrunk_self}
use Rattle.session.specs.Acts as act
use Rattle.session.specs.Acts.{at_clock, cancelling, entering, first, freeing, placing, putting, still, ticking, withdrawing}
use Rattle.session.specs.Calls.{accepting, answer_of, cancelled, declined, declining, done, done_on, entered, guarded, middle, number_of, order_of, out_on, quote_from, quoted, renewed, tallied, ticked, validated, with_count, with_dynamic, with_totals, withdrawn}
use Rattle.session.specs.Checks.{Passed, cancel_check, clock_check, enter_check, fits, quote_test, room_check, validate_check, withdraw_check}
use Rattle.session.specs.Days.{Day, State}
use Rattle.session.specs.Phases.{Phase, Dark, Lit, Asked, Halted, Rfe, is_asked, is_dark, is_halted, opener_of, quote_of}
use Rattle.session.specs.Runs.{Acted, crossing, with_phase}
use Rattle.session.specs.Stories.{Call, Enter, Cancel, Quoting, Withdraw, Collect, Validate, Decline, Clock, Renew, Answered, handing, keeping, spending, yields}
use Rattle.session.specs.Closing.{held_in, pieces_in}
use Rattle.session.specs.StoryCounts.{WasEntered}
use Rattle.session.specs.StoryFair.{FairAnswer, FairUnder, in_limit1}
use Rattle.session.specs.StoryPhases.{begun, governs, quote_left, remaining, takes_away}
use Rattle.session.specs.StoryRfes.{Ends}
use Rattle.session.specs.StoryStretch.{is_quote}
use Rattle.session.specs.StorySummonses.{spent_in}
use Rattle.session.specs.StoryTimes.{Timely, clock_in, dynamic_in}
use Rattle.session.specs.declared.entry.Entry.{Entry}
use Rattle.session.proofs.CrossSteps.{crossing_keeps}
use Rattle.session.proofs.Goods.{Good, GoodQuote, GoodRows, any_frame, quote_less, quote_more, table_less, table_more}
use Rattle.session.proofs.Passing.{EnterPassed, QuoteFigures, QuotePassed, ValidatePassed, cancel_passed, clock_passed, enter_passed, quote_passed, room_ok, validate_passed, withdraw_passed}
use Rattle.session.proofs.Placings.{place_at, place_sum}
use Rattle.session.proofs.Steps.{Reads, Step, Stood, calm, crossed, finished, lit_runs, lowered_quote_self, lowered_self, refusing}

same_some : (q q' : Quote) → ◌≡◌ {A = Option Quote} (Some q) (Some q') → q' ≡ q
same_some q q' e = cc

-- where no quote stands, slips make none
quoteless : (ss : List Slip) → quote_left ss None ≡ None
quoteless [] = refl
quoteless (Trade price pieces buyer seller ∷ xs) = ap (λ z. quote_left xs z) (unmade (eqb buyer 0) (eqb seller 0)) ∙ quoteless xs
  where
    unmade : (v w : Bool) → ◌≡◌ {A = Option Quote} (cond w (on_quote (lower_quote Sell pieces) (cond v None None)) (cond v None None)) None
    unmade true true = refl
    unmade true false = refl
    unmade false true = refl
    unmade false false = refl
quoteless (Out cause ticket pieces ∷ xs) = ap (λ z. quote_left xs z) (unmade (halts cause)) ∙ quoteless xs
  where
    unmade : (v : Bool) → ◌≡◌ {A = Option Quote} (cond v None None) None
    unmade true = refl
    unmade false = refl

abbrev Plain : Call → State → Type 0
Plain c s = Reads c s 0 0 0 (λ _. 0)

module _ (d : Day) (test : ℕ → Bool) (passes : (p : ℕ) → in_limit1 d p ≡ true → test p ≡ true) (L : RankLaw d.rank) (s : State)
    (G : Good test s.table.rows s.phase s.count) (was : Bool)
    (places held : ℕ) where
  abbrev rows : Rows
  rows = s.table.rows

  -- only an enter asks
  no_ask : {B : Type 0} → false ≡ true → B
  no_ask e = true_false false e refl

  fair_none : (is_enter stands : Bool) (rs : Rows) (o : Option Quote) → FairUnder d s is_enter rs stands o []
  fair_none is_enter stands rs None = refl
  fair_none is_enter stands rs (Some q) = tt

  -- ---- enter
  reads_enter : (e : Entry) (ticket : ℕ) → EnterPassed d s places e ticket → Reads (Enter e) s ticket 1 e.pieces
      (λ t. worth t (Some (order_of e ticket)))
  reads_enter e ticket P =
      record {
        given = λ p n. refl;
        names = λ p n z. (omega (arith, P.next), omega (arith, P.next));
        numbered = λ p n. P.next;
        gained = λ p n t. refl;
        taken = λ p n. refl;
        most = omega (arith, P.figures.few);
      }

  -- what stands with the new order is the new order, or stood before
  new : (e : Entry) (ticket i : ℕ) (p : Order) → At (place (order_of e ticket) rows) i p →
      ((x : State) (n : ℕ) → WasEntered p (Enter e) (Answered (answer_of x n ticket))) ⊎ Stood rows i p
  new e ticket i p a =
      ⊎_elim (λ z. inr (p, z, lowered_self p))
      (λ (k : p ≡ order_of e ticket).
      inl (λ x n.
      record {
        ticket = ap (λ z. z.ticket) k;
        sender = ap (λ z. z.sender) k;
        side = ap (λ z. z.side) k;
        price = ap (λ z. z.price) k;
        brief = ap (λ z. z.brief) k;
        pieces = omega (arith, ap (λ z. z.pieces) k);
      }))
      (place_at (order_of e ticket) rows i p a)

  enter_by : (e : Entry) (ticket : ℕ) → EnterPassed d s places e ticket → (ph : Phase) → s.phase ≡ ph →
      Step d test s (Enter e) was places held (keeping held
      (finished (entering d (accepting s ticket e.pieces) (order_of e ticket) ph) ticket))
  enter_by e ticket P Dark h = true_false (is_dark s.phase) (ap is_dark h) P.not_dark
  enter_by e ticket P (Halted until) h = true_false (is_halted s.phase) (ap is_halted h) P.not_halted
  enter_by e ticket P (Lit q) h =
      let o = order_of e ticket in
      let s1 = placing (accepting s ticket e.pieces) o in
      let T = table_more test rows s.count G.table o P.next P.space (passes e.price P.figures.within)
      P.figures.some in
      let Q = quote_more test rows s.count G.table o P.next q (G.quote q (ap quote_of h)) in
      let C = crossing_keeps d test L s1 q (Some q) true T Q (same_some q) in
      crossed d test s G (Enter e) was places held s1 q (Some q) true (crossing d s1 q (Some q) true) C ticket 1 e.pieces
      (λ t. worth t (Some o))
      (reads_enter e ticket P) [] held P.next refl refl refl (λ _. omega (arith, P.next, P.left)) C.fit P.room
      (λ t z. omega (arith, place_sum (worth t) refl o rows (omega (arith, G.table.size, P.space))))
      (omega (arith, place_sum pieces_in refl o rows (omega (arith, G.table.size, P.space))))
      (λ i p a. new e ticket i p a)
      (λ p n ss z. subst (λ v. FairUnder d s true (place (order_of e ticket) rows) true v ss) (sym (ap quote_of h)) z)
      tt (λ p n ss. refl)
      (λ s' x r A due low. record { entered = refl; governing = q; stood = h; left = low; asked = A; due = due })
      refl refl (λ p n. ap quote_of h) (λ k. k q (ap quote_of h)) (record { clock = refl; dynamic = refl })
      (λ x r z. true_false (is_asked s.phase) (ap is_asked z) (ap is_asked h)) (λ z. true_false (is_asked s.phase) z (ap is_asked h))
      (λ p n ss ph z. record { stays = λ _. z ∙ ap (λ v. quote_left ss v) (sym (ap quote_of h)); goes = λ e. no_ask e })
  enter_by e ticket P (Asked q r) h =
      let o = order_of e ticket in
      record {
        told = refl;
        few = omega arith;
        room = omega arith;
        replies = (record { phase = refl; dynamic = refl; opener = refl }, P.next);
        spares = tt;
        grows = P.next;
        names = λ z. (omega (arith, P.next), omega arith);
        good = record {
          table = table_more test rows s.count G.table o P.next P.space (passes e.price P.figures.within)
              P.figures.some;
          quote = λ x z. quote_more test rows s.count G.table o P.next x (G.quote x z);
          brief = λ z i p a. true_false (is_asked s.phase) (ap is_asked h) z;
        };
        ledger = λ t z. omega (arith, place_sum (worth t) refl o rows (omega (arith, G.table.size, P.space)));
        enters = λ i p a. ⊎_elim (λ z. inl (z (placing (accepting s ticket e.pieces) o) 0)) (λ z. inr z) (new e ticket i p a);
        fair = fair_none true true (place o rows) (quote_of s.phase);
        prices = tt;
        leaves = refl;
        asks = λ x r z. inl z;
        halts = λ until z. inl z;
        hands = (refl, refl);
        quotes = λ x z. (x, z, lowered_quote_self x);
        quote_told = record { stays = λ _. refl; goes = λ z. no_ask z };
        rfe = λ x r z. inl (z, omega arith);
        sets = record { clock = refl; dynamic = refl };
        timely = λ k. record { asked = k.asked; halted = k.halted };
        clear = λ k x z. or_from _ _ (lit_runs s.phase x z) (k x z);
        quiet = λ _ u v. true_false (is_asked s.phase) (ap is_asked h) u;
        accepted = refl;
        done = omega arith;
        out = omega arith;
        balance = omega (arith, place_sum pieces_in refl o rows (omega (arith, G.table.size, P.space)));
        most = omega (arith, P.figures.few);
        numbers = λ _. omega (arith, P.next, P.left);
      }

  enter_step : (e : Entry) → Step d test s (Enter e) was places held (keeping held (entered d s places e))
  unfolding done
  enter_step e = go (enter_check d s places e) refl
    where
      go : (r : Passed ℕ) → enter_check d s places e ≡ r →
          Step d test s (Enter e) was places held (keeping held
          (guarded s r (λ ticket. done d (accepting s ticket e.pieces) (act.Enter (order_of e ticket)) ticket)))
      go (Err f) h = refusing d test s G (Enter e) was places held f
      go (Ok ticket) h = enter_by e ticket (enter_passed d s places e ticket h) s.phase refl

  -- ---- cancel
  plain_cancel : (sender ticket : ℕ) → Plain (Cancel sender ticket) s
  plain_cancel sender ticket =
      record {
        given = λ p n. refl;
        names = λ p n z. absurd (z refl);
        numbered = λ p n. refl;
        gained = λ p n t. refl;
        taken = λ p n. refl;
        most = omega arith;
      }

  module _ (sender ticket : ℕ) (f : Found) (stands : At rows f.place f.order) (sent : f.order.sender ≡ sender)
      (named : f.order.ticket ≡ ticket)
      (room : 129 ≤ places) where
    abbrev c : Call
    c = Cancel sender ticket

    abbrev rows1 : Rows
    rows1 = set rows f.place None

    less : Shrunk rows1 rows
    less = set_shrunk rows f.place None f.order stands (λ p e. none_some p e)

    fewer : standing rows1 + 1 ≡ standing rows
    fewer = omega (arith, set_standing rows f.place None f.order stands)

    cut : (t : ℕ) → left t rows ≡ sum_by (traded_by t) (gone Cancelled f ∷ []) + sum_by (out_by t) (gone Cancelled f ∷ []) + left t rows1
    cut t = omega (arith, freed_left t rows f.place f.order stands)

    cut_all : held_in rows ≡ sum_by done_on (gone Cancelled f ∷ []) + sum_by out_on (gone Cancelled f ∷ []) + held_in rows1
    cut_all =
        let k = sum_by-set pieces_in rows f.place None None (inside rows f.place f.order stands) in
        let m : held_in rows1 + f.order.pieces ≡ held_in rows + 0 = rw stands at k in
        omega (arith, m)

    fair_cancel : (ss : List Slip) → FairUnder d s false (map (without ticket) rows) true (quote_of s.phase) ss → (p : State) (n : ℕ) →
        FairAnswer d s c (answer_of p n 0) (gone Cancelled f ∷ ss)
    fair_cancel ss z p n =
        record {
          place = f.place;
          order = f.order;
          stands = stands;
          sent = sent;
          named = named;
          rest = ss;
          first = ap (λ t. Out Cancelled t f.order.pieces ∷ ss) named;
          fair = z;
        }

    gone_rows : map (without f.order.ticket) rows ≡ rows1
    gone_rows =
        gone_told any_frame (board_of rows None false)
        (record { rows = G.table.sound; quote = λ q e. none_some q e; halted_dark = λ e. refl }) f stands

    outside : map (without ticket) rows ≡ rows1
    outside = subst (λ t. map (without t) rows ≡ rows1) named gone_rows

    -- no order reaches the quote any more
    nobody : (q : Quote) → is_reached q rows1 ≡ false → (i : ℕ) (o : Order) → At (map (without ticket) rows) i o → reaches q o
        o.side ≡ false
    nobody q b i o a =
        none (best earlier (picked (Reaching q)) rows1) b
        (first_is d.rank L (Reaching q) rows1 (table_less test rows1 rows s.count less (omega (arith, fewer))
        (length-set rows f.place None) G.table).sound.distinct) i o
        (subst (λ z. At z i o) outside a)
      where
        none : (v : Option Found) → is_some v ≡ false → IsFirst d.rank (Reaching q) rows1 v → (i : ℕ) (o : Order) →
            At rows1 i o → reaches q o o.side ≡ false
        none None e h i o a = h i o a
        none (Some x) e h i o a = true_false true refl e

    simple : Step d test s c was places held (keeping held (finished (first (gone Cancelled f) (still (freeing s f))) 0))
    simple =
        calm d test s G c was places held (plain_cancel sender ticket) (with_totals (freeing s f)
        (tallied s.totals (gone Cancelled f ∷ []))) (gone Cancelled f ∷ []) held
        refl refl refl refl (omega arith) (omega (arith, room)) less (omega (arith, fewer)) (length-set rows f.place None)
        (λ q e. e) (λ e. e) refl cut cut_all
        (fair_cancel [] (fair_none false true (map (without ticket) rows) (quote_of s.phase))
        (with_totals (freeing s f) (tallied s.totals (gone Cancelled f ∷ []))) 1)
        (tt, tt) (sym gone_rows) (λ q r e. e) (λ until e. e)
        refl refl (λ p n. refl) (record { clock = refl; dynamic = refl }) (λ h. record { asked = h.asked; halted = h.halted })
        (λ q r z. inl (z, omega arith)) (record { stays = λ _. refl; goes = λ e. no_ask e })

    cancel_by : (ph : Phase) → s.phase ≡ ph → Step d test s c was places held
        (keeping held (finished (first (gone Cancelled f) (cancelling d (freeing s f) ph)) 0))
    cancel_by Dark h = simple
    cancel_by (Lit q) h = simple
    cancel_by (Halted until) h = simple
    cancel_by (Asked q r) h =
        let s1 = freeing s f in
        let T = table_less test rows1 rows s.count less (omega (arith, fewer)) (length-set rows f.place None) G.table in
        let Q = quote_less test rows1 rows s.count q (shrinks_by _ _ less) (G.quote q (ap quote_of h)) in
        let C = crossing_keeps d test L s1 q (Some q) false T Q (same_some q) in
        cond_both (is_reached q rows1) (still s1) (crossing d s1 q (Some q) false)
        (λ z. Step d test s c was places held (keeping held (finished (first (gone Cancelled f) z) 0)))
        (λ _. simple)
        (λ b.
        crossed d test s G c was places held s1 q (Some q) false (crossing d s1 q (Some q) false) C 0 0 0 (λ _. 0)
        (plain_cancel sender ticket)
        (gone Cancelled f ∷ []) held (omega arith) (omega arith) refl refl (λ z. z)
        (omega (arith, C.few, fewer, G.table.sound.few)) room
        (λ t z. omega (arith, cut t)) (omega (arith, cut_all))
        (λ i o a. inr (shrinks_by _ _ less i o a))
        (λ p n ss z.
        fair_cancel ss
        (subst (λ v. FairUnder d s false (map (without ticket) rows) true v ss) (sym (ap quote_of h))
        (subst (λ v. FairUnder d s false v true (Some q) ss) (sym outside) z)) p n)
        (tt, tt) (λ p n ss. ap (λ z. remaining ss z) (sym gone_rows)) (λ s' x r A due low. no_ask A.entered)
        refl refl (λ p n. ap quote_of h) (λ k. k q (ap quote_of h)) (record { clock = refl; dynamic = refl })
        (λ x y z. let k : q ≡ x = cc in nobody x (subst (λ v. is_reached v rows1 ≡ false) k b)) (λ _. refl)
        (λ p n ss ph z. record { stays = λ _. z ∙ ap (λ v. quote_left ss v) (sym (ap quote_of h)); goes = λ e. no_ask e }))

  cancel_step : (sender ticket : ℕ) → Step d test s (Cancel sender ticket) was places held
      (keeping held (cancelled d s places sender ticket))
  unfolding done
  cancel_step sender ticket = go (cancel_check s places sender ticket) refl
    where
      top : (f : Found) → find sender ticket rows ≡ Some f → Top earlier (picked (Owned sender ticket)) rows f
      top f e = subst (λ z. IsFirst d.rank (Owned sender ticket) rows z) e
          (first_is d.rank L (Owned sender ticket) rows G.table.sound.distinct)

      go : (r : Passed Found) → cancel_check s places sender ticket ≡ r →
          Step d test s (Cancel sender ticket) was places held (keeping held (guarded s r (λ found. done d s (act.Cancel found) 0)))
      go (Err f) h = refusing d test s G (Cancel sender ticket) was places held f
      go (Ok f) h =
          let P = cancel_passed s places sender ticket f h in
          let t = top f P.1 in
          let k = and_parts _ _ t.passes in
          cancel_by sender ticket f t.here (eqb-true _ _ k.1) (eqb-true _ _ k.0) P.0 s.phase refl

  -- ---- quote
  new_quote : (o : Offer) (flagged : Bool) (number count : ℕ) → QuoteFigures d o → number ≤ count →
      ((i : ℕ) (x : Order) → At rows i x → x.ticket ≢ number) →
      GoodQuote test rows count (quote_from o flagged number)
  new_quote o flagged number count F low apart =
      record {
        in_order = omega (arith, F.in_order);
        some_bid = F.some_bid;
        some_ask = F.some_ask;
        bid_within = passes o.bid F.bid_within;
        ask_within = passes o.ask F.ask_within;
        apart = apart;
        low = low;
      }

  quote_cross : (o : Offer) (flagged : Bool) (number : ℕ) → QuotePassed d s places o number →
      Step d test s (Quoting o flagged) was places held
      (keeping held (finished (crossing d (with_count s number) (quote_from o flagged number)
      (Some (quote_from o flagged number)) false) number))
  quote_cross o flagged number P =
      let s1 = with_count s number in
      let q = quote_from o flagged number in
      let T : GoodRows test rows number =
      record {
        size = G.table.size;
        sound = G.table.sound;
        low = λ i x a. omega (arith, G.table.low i x a, P.next);
        within = G.table.within;
      } in
      let Q = new_quote o flagged number number P.figures (omega arith) (λ i x a z. omega (arith, G.table.low i x a, z, P.next)) in
      let C = crossing_keeps d test L s1 q (Some q) false T Q (same_some q) in
      crossed d test s G (Quoting o flagged) was places held s1 q (Some q) false (crossing d s1 q (Some q) false) C number 1 0 (λ _. 0)
      (record {
        given = λ p n. refl;
        names = λ p n z. (omega (arith, P.next), omega (arith, P.next));
        numbered = λ p n. P.next;
        gained = λ p n t. refl;
        taken = λ p n. refl;
        most = omega arith;
      })
      [] held P.next (omega arith) refl refl (λ _. omega (arith, P.next, P.left)) C.fit P.room
      (λ t z. omega arith) (omega arith) (λ i x a. inr (x, a, lowered_self x)) (λ p n ss z. z) tt
      (λ p n ss. refl) (λ s' x r A due low. no_ask A.entered)
      refl refl (λ p n. refl) (λ _. refl) (record { clock = refl; dynamic = refl })
      (λ x r z. true_false (is_asked s.phase) (ap is_asked z) P.not_asked) (λ _. refl)
      (λ p n ss ph z. record { stays = λ _. z; goes = λ e. no_ask e })

  quote_by : (o : Offer) (flagged : Bool) (number : ℕ) → QuotePassed d s places o number → (ph : Phase) → s.phase ≡ ph →
      Step d test s (Quoting o flagged) was places held (keeping held
      (finished (putting d (with_count s number) (quote_from o flagged number) ph) number))
  quote_by o flagged number P Dark h = quote_cross o flagged number P
  quote_by o flagged number P (Lit q) h = quote_cross o flagged number P
  quote_by o flagged number P (Asked q r) h = true_false (is_asked s.phase) (ap is_asked h) P.not_asked
  quote_by o flagged number P (Halted until) h = true_false (is_halted s.phase) (ap is_halted h) P.not_halted

  quote_step : (o : Offer) (flagged : Bool) → Step d test s (Quoting o flagged) was places held (keeping held (quoted d s places o flagged))
  unfolding done
  quote_step o flagged = go (quote_test d s places o) refl
    where
      go : (r : Passed ℕ) → quote_test d s places o ≡ r →
          Step d test s (Quoting o flagged) was places held (keeping held
          (guarded s r (λ number. done d (with_count s number) (act.Put (quote_from o flagged number)) number)))
      go (Err f) h = refusing d test s G (Quoting o flagged) was places held f
      go (Ok number) h = quote_by o flagged number (quote_passed d s places o number h) s.phase refl

  -- ---- validate
  abbrev kept_number : ℕ
  kept_number = number_of (quote_of s.phase)

  validate_by : (o : Offer) (flagged : Bool) → ValidatePassed d s places held o → (ph : Phase) → s.phase ≡ ph →
      Step d test s (Validate o flagged) was places held (keeping 0
      (finished (putting d s (quote_from o flagged kept_number) ph) kept_number))
  validate_by o flagged P Dark h = true_false (is_asked s.phase) P.is_asked (ap is_asked h)
  validate_by o flagged P (Lit q) h = true_false (is_asked s.phase) P.is_asked (ap is_asked h)
  validate_by o flagged P (Halted until) h = true_false (is_asked s.phase) P.is_asked (ap is_asked h)
  validate_by o flagged P (Asked old r) h =
      let q = quote_from o flagged kept_number in
      let e : kept_number ≡ old.number = ap (λ z. number_of (quote_of z)) h in
      let O = G.quote old (ap quote_of h) in
      let Q = new_quote o flagged kept_number s.count P.figures (omega (arith, e, O.low)) (λ i x a z. O.apart i x a (z ∙ e)) in
      let C = crossing_keeps d test L s q (Some q) false G.table Q (same_some q) in
      crossed d test s G (Validate o flagged) was places held s q (Some q) false (crossing d s q (Some q) false) C kept_number 0 0 (λ _. 0)
      (record {
        given = λ p n. refl;
        names = λ p n z. absurd (z refl);
        numbered = λ p n. refl;
        gained = λ p n t. refl;
        taken = λ p n. refl;
        most = omega arith;
      })
      [] 0 (omega arith) (omega arith) refl refl (λ z. z) C.fit P.room
      (λ t z. omega arith) (omega arith) (λ i x a. inr (x, a, lowered_self x)) (λ p n ss z. z) tt
      (λ p n ss. refl) (λ s' x r A due low. no_ask A.entered)
      refl refl (λ p n. refl) (λ k. k old (ap quote_of h)) (record { clock = refl; dynamic = refl })
      (λ x y z. P.fits ∙ ap opener_of z) (λ _. refl)
      (λ p n ss ph z. record { stays = λ _. z; goes = λ e. no_ask e })

  validate_step : (o : Offer) (flagged : Bool) → Step d test s (Validate o flagged) was places held
      (spending held (validated d s places held o flagged))
  unfolding done
  validate_step o flagged = go (validate_check d s places held o) refl
    where
      go : (r : Passed (Unit {0})) → validate_check d s places held o ≡ r →
          Step d test s (Validate o flagged) was places held (spending held
          (guarded s r (λ _. done d s (act.Put (quote_from o flagged kept_number)) kept_number)))
      go (Err f) h = refusing d test s G (Validate o flagged) was places held f
      go (Ok u) h = validate_by o flagged (validate_passed d s places held o u h) s.phase refl

  -- ---- the quote goes: withdraw, decline and clock
  module _ (c : Call) (R : Plain c s) (nq : is_quote c ≡ false) (kept : ℕ) (room : 129 ≤ places)
      (fairly : (p : State) (n : ℕ) (ss : List Slip) → FairUnder d s false rows false (quote_of s.phase) ss → FairAnswer d s c
      (answer_of p n 0) ss)
      (begins : (p : State) (n : ℕ) → begun c (answer_of p n 0) rows ≡ rows)
      (kp : kept ≡ spent_in c held) (gv : (p : State) (n : ℕ) → governs c (answer_of p n 0) s ≡ quote_of s.phase)
      (dy : s.dynamic ≡ dynamic_in c s) (ta : takes_away c ≡ true) where
    abbrev Yields : Acted → Type 0
    Yields a = Step d test s c was places held (keeping kept (finished a 0))

    abbrev total : State → State
    total after = with_totals after (tallied s.totals [])

    ending : (clock : ℕ) → clock ≡ clock_in c s.clock → ((q : Quote) (r : Rfe) → s.phase ≡ Asked q r → Ends c s held q r) →
        (q : Quote) → quote_of s.phase ≡ Some q → Yields
        (crossing d (at_clock s clock) q None false)
    ending clock ck en q e =
        let s1 = at_clock s clock in
        let C = crossing_keeps d test L s1 q None false G.table (G.quote q e) (λ x z. none_some x z) in
        crossed d test s G c was places held s1 q None false (crossing d s1 q None false) C 0 0 0 (λ _. 0) R
        [] kept (omega arith) (omega arith) refl refl (λ z. z) C.fit room
        (λ t z. omega arith) (omega arith) (λ i x a. inr (x, a, lowered_self x))
        (λ p n ss z. fairly p n ss (subst (λ v. FairUnder d s false rows false v ss) (sym e) z)) tt
        (λ p n ss. ap (λ z. remaining ss z) (sym (begins p n))) (λ s' x r A due low. no_ask A.entered)
        kp refl (λ p n. gv p n ∙ e) (λ k. rw nq (k q e)) (record { clock = ck; dynamic = dy }) en (λ _. refl)
        (λ p n ss ph z.
        record { stays = λ w. true_false _ ta w; goes = λ _ x w. none_some x (sym (quoteless ss) ∙ sym z ∙ w) })

    darkens : (clock : ℕ) → clock ≡ clock_in c s.clock → is_asked s.phase ≡ false → Yields (still (with_phase (at_clock s clock) Dark))
    darkens clock ck e =
        let after = total (with_phase (at_clock s clock) Dark) in
        calm d test s G c was places held R after [] kept refl refl refl refl (omega arith) (omega arith)
        (shrunk_self rows) (omega arith) refl (λ q z. none_some q z) (λ _. e) nq (λ t. omega arith) (omega arith)
        (fairly after 0 [] (fair_none false false rows (quote_of s.phase))) tt (sym (begins after 0))
        (λ q r z. true_false true refl (ap is_asked (sym z))) (λ until z. true_false true refl (ap is_halted (sym z)))
        kp refl gv (record { clock = ck; dynamic = dy })
        (λ _.
        record {
          asked = λ some q r z. true_false true refl (ap is_asked (sym z));
          halted = λ until z. true_false true refl (ap is_halted (sym z));
        })
        (λ q r z. true_false (is_asked s.phase) (ap is_asked z) e)
        (record { stays = λ w. true_false _ ta w; goes = λ _ x w. none_some x w })

    stays : (clock : ℕ) → clock ≡ clock_in c s.clock → Timely d.reply (total (at_clock s clock)) → Yields (still (at_clock s clock))
    stays clock ck t =
        let after = total (at_clock s clock) in
        calm d test s G c was places held R after [] kept refl refl refl refl (omega arith) (omega arith)
        (shrunk_self rows) (omega arith) refl (λ q z. z) (λ z. z) nq (λ t. omega arith) (omega arith)
        (fairly after 0 [] (fair_none false false rows (quote_of s.phase))) tt (sym (begins after 0))
        (λ q r z. z) (λ until z. z) kp refl gv (record { clock = ck; dynamic = dy }) (λ _. t)
        (λ q r z. inl (z, omega arith)) (record { stays = λ w. true_false _ ta w; goes = λ _ x w. w })

    withdraws : s.clock ≡ clock_in c s.clock → ((q : Quote) (r : Rfe) → s.phase ≡ Asked q r → Ends c s held q r) →
        (ph : Phase) → s.phase ≡ ph → is_some (quote_of s.phase) ≡ true → Yields
        (withdrawing d s ph)
    withdraws ck en Dark h k = true_false _ k (ap (λ z. is_some (quote_of z)) h)
    withdraws ck en (Lit q) h k = darkens s.clock ck (ap is_asked h)
    withdraws ck en (Asked q r) h k = ending s.clock ck en q (ap quote_of h)
    withdraws ck en (Halted until) h k = true_false _ k (ap (λ z. is_some (quote_of z)) h)

    ticks : (clock : ℕ) → clock ≡ clock_in c s.clock →
        ((q : Quote) (r : Rfe) → s.phase ≡ Asked q r → r.due ≤ clock → Ends c s held q r) → (ph : Phase) → s.phase ≡ ph →
        Yields (ticking d (at_clock s clock) ph)
    ticks clock ck en Dark h =
        stays clock ck
        (record {
          asked = λ some q r z. true_false (is_asked s.phase) (ap is_asked z) (ap is_asked h);
          halted = λ until z. true_false (is_halted s.phase) (ap is_halted z) (ap is_halted h);
        })
    ticks clock ck en (Lit x) h =
        stays clock ck
        (record {
          asked = λ some q r z. true_false (is_asked s.phase) (ap is_asked z) (ap is_asked h);
          halted = λ until z. true_false (is_halted s.phase) (ap is_halted z) (ap is_halted h);
        })
    ticks clock ck en (Asked x y) h =
        cond_both (leb y.due clock) _ _ Yields
        (λ b. ending clock ck (λ q r z. let k : y ≡ r = cc in en q r z
        (subst (λ v. v.due ≤ clock) k (leb-true y.due clock b))) x (ap quote_of h))
        (λ b.
        stays clock ck
        (record {
          asked = λ some q r z. let k : y ≡ r = cc in subst (λ v. clock < v.due) k (leb-false y.due clock b);
          halted = λ until z. true_false (is_halted s.phase) (ap is_halted z) (ap is_halted h);
        }))
    ticks clock ck en (Halted x) h =
        cond_both (leb x clock) _ _ (λ z. Yields (still z)) (λ _. darkens clock ck (ap is_asked h))
        (λ b.
        stays clock ck
        (record {
          asked = λ some q r z. true_false (is_asked s.phase) (ap is_asked z) (ap is_asked h);
          halted = λ until z. let k : x ≡ until = cc in subst (λ v. clock < v) k (leb-false x clock b);
        }))

  withdraw_step : Step d test s Withdraw was places held (keeping held (withdrawn d s places))
  unfolding done
  withdraw_step = go (withdraw_check s places) refl
    where
      reads : Plain Withdraw s
      reads =
          record {
            given = λ p n. refl;
            names = λ p n z. absurd (z refl);
            numbered = λ p n. refl;
            gained = λ p n t. refl;
            taken = λ p n. refl;
            most = omega arith;
          }

      go : (r : Passed (Unit {0})) → withdraw_check s places ≡ r → Step d test s Withdraw was places held
          (keeping held (guarded s r (λ _. done d s act.Withdraw 0)))
      go (Err f) h = refusing d test s G Withdraw was places held f
      go (Ok u) h =
          let P = withdraw_passed s places u h in
          withdraws Withdraw reads refl held P.0 (λ p n ss z. z) (λ p n. refl) refl (λ p n. refl) refl refl refl (λ q r z. tt)
          s.phase refl P.1

  decline_step : Step d test s Decline was places held (spending held (declined d s places held))
  unfolding done
  decline_step = go (room_check places) refl
    where
      reads : Plain Decline s
      reads =
          record {
            given = λ p n. refl;
            names = λ p n z. absurd (z refl);
            numbered = λ p n. refl;
            gained = λ p n t. refl;
            taken = λ p n. refl;
            most = omega arith;
          }

      asked : (ph : Phase) → s.phase ≡ ph → is_asked s.phase ≡ true → is_some (quote_of s.phase) ≡ true
      asked Dark h k = true_false _ k (ap is_asked h)
      asked (Lit q) h k = true_false _ k (ap is_asked h)
      asked (Asked q r) h k = ap (λ z. is_some (quote_of z)) h
      asked (Halted until) h k = true_false _ k (ap is_asked h)

      by : 129 ≤ places → (v : Bool) → fits s held ≡ v → Step d test s Decline was places held (spending held (declining d s v))
      by room true h =
          withdraws Decline reads refl 0 room (λ p n ss z. z) (λ p n. refl) refl (λ p n. refl) refl refl refl
          (λ q r z. eqb-true _ _ (and_parts (is_asked s.phase) (eqb held (opener_of s.phase)) h).1 ∙ ap opener_of z) s.phase refl
          (asked s.phase refl (and_parts (is_asked s.phase) (eqb held (opener_of s.phase)) h).0)
      by room false h =
          calm d test s G Decline was places held reads s [] 0 refl refl (omega arith) (omega arith) (omega arith) (omega arith)
          (shrunk_self rows) (omega arith) refl (λ q z. z) (λ z. z) refl (λ t. omega arith) (omega arith)
          (fair_none false false rows (quote_of s.phase)) tt refl (λ q r z. z) (λ until z. z)
          refl refl (λ p n. refl) (record { clock = refl; dynamic = refl }) (λ h. h)
          (λ q r z. inl (z, omega arith)) (record { stays = λ e. no_ask (sym e); goes = λ _ q z. z })

      go : (r : Passed (Unit {0})) → room_check places ≡ r → Step d test s Decline was places held
          (spending held (guarded s r (λ _. declining d s (fits s held))))
      go (Err f) h = refusing d test s G Decline was places held f
      go (Ok u) h = by (room_ok places u h) (fits s held) refl

  clock_step : (seconds : ℕ) → Step d test s (Clock seconds) was places held (keeping held (ticked d s places seconds))
  unfolding done
  clock_step seconds = go (clock_check s places seconds) refl
    where
      reads : Plain (Clock seconds) s
      reads =
          record {
            given = λ p n. refl;
            names = λ p n z. absurd (z refl);
            numbered = λ p n. refl;
            gained = λ p n t. refl;
            taken = λ p n. refl;
            most = omega arith;
          }

      go : (r : Passed (Unit {0})) → clock_check s places seconds ≡ r →
          Step d test s (Clock seconds) was places held (keeping held (guarded s r (λ _. done d s (act.Clock seconds) 0)))
      go (Err f) h = refusing d test s G (Clock seconds) was places held f
      go (Ok u) h = ticks (Clock seconds) reads refl held (clock_passed s places seconds u h) (λ p n ss z. z) (λ p n. refl) refl
          (λ p n. refl) refl refl seconds refl (λ q r z l. l) s.phase refl

  renew_step : Step d test s Renew was places held (keeping held (renewed s))
  renew_step =
      calm d test s G Renew was places held reads (with_dynamic s (middle s (quote_of s.phase))) [] held refl refl (omega arith)
      (omega arith) (omega arith) (omega arith)
      (shrunk_self rows) (omega arith) refl (λ q z. z) (λ z. z) refl (λ t. omega arith) (omega arith) refl tt
      refl (λ q r z. z) (λ until z. z) refl refl (λ p n. refl) (record { clock = refl; dynamic = refl })
      (λ h. record { asked = h.asked; halted = h.halted })
      (λ q r z. inl (z, omega arith)) (record { stays = λ _. refl; goes = λ e. no_ask e })
    where
      reads : Plain Renew s
      reads =
          record {
            given = λ p n. refl;
            names = λ p n z. absurd (z refl);
            numbered = λ p n. refl;
            gained = λ p n t. refl;
            taken = λ p n. refl;
            most = omega arith;
          }

  collect_step : Step d test s Collect was places held (handing s)
  collect_step =
      record {
        told = refl;
        few = omega arith;
        room = omega arith;
        replies = tt;
        spares = tt;
        grows = omega arith;
        names = λ z. absurd (z refl);
        good = G;
        ledger = λ t z. omega arith;
        enters = λ i o a. inr (o, a, lowered_self o);
        fair = refl;
        prices = tt;
        leaves = refl;
        asks = λ q r e. inl e;
        halts = λ until e. inl e;
        hands = (refl, refl, refl);
        quote_told = refl;
        rfe = λ q r e. inl (e, omega arith);
        sets = record { clock = refl; dynamic = refl };
        timely = λ h. record { asked = h.asked; halted = h.halted };
        quotes = refl;
        clear = λ h. h;
        quiet = λ h. h;
        accepted = omega arith;
        done = omega arith;
        out = omega arith;
        balance = omega arith;
        most = omega arith;
        numbers = λ h. h;
      }

  pub steps : (c : Call) → Step d test s c was places held (yields d s places held c)
  unfolding yields
  steps (Enter e) = enter_step e
  steps (Cancel sender ticket) = cancel_step sender ticket
  steps (Quoting o flagged) = quote_step o flagged
  steps Withdraw = withdraw_step
  steps Collect = collect_step
  steps (Validate o flagged) = validate_step o flagged
  steps Decline = decline_step
  steps (Clock seconds) = clock_step seconds
  steps Renew = renew_step
