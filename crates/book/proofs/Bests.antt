-- The first of the orders that a search looks at: it stands, it passes, and every other that passes goes behind it.
use Rattle.std.proofs.Common.{◌≡◌, ℕ, zero, suc, ◌+◌, ◌<◌, ◌≤◌, Bool, true, false, cond, not, ltb, ◌≢◌, [], ◌∷◌, length, get_or, drop, Some, None, Option, sym, refl, ap, ◌∙◌, subst, ⊎_elim, add-zero, arith, below_more}
use Rattle.std.proofs.lemmas.List.{get_or-drop, drop-drop, length-drop}
use Rattle.std.proofs.lemmas.Bool.{cases_eq, lt-ltb, ltb-true, ltb-false}
use Rattle.book.specs.Sides.{Side}
use Rattle.book.specs.Proposals.{Order, proposal}
use Rattle.book.specs.Ranks.{Rank, RankLaw}
use Rattle.book.specs.Picks.{Pick, Any, Taking, Partner, Reaching, Brief, Owned, beats, earlier, picked, ranked}
use Rattle.book.specs.Tables.{Rows, At}
use Rattle.book.specs.Firsts.{Found, found_at, chosen, looked, scan, best, first}
use Rattle.book.specs.Sound.{Distinct}

pub none_some : {A : Type 0} {B : Type 0} (o : A) → ◌≡◌ {A = Option A} None (Some o) → B
none_some o e = let z : ◌≡◌ {A = ℕ} 0 1 = cc in absurd (omega arith)

pub true_false : {B : Type 0} (b : Bool) → b ≡ true → b ≡ false → B
true_false b p q = let z : ◌≡◌ {A = ℕ} 0 1 = cc in absurd (omega arith)

pub inside : (rows : Rows) (i : ℕ) (o : Order) → At rows i o → i < length rows
inside [] i o h = none_some o h
inside (r ∷ rs) zero o h = omega arith
inside (r ∷ rs) (suc i) o h = let k : i < length rs = inside rs i o h in omega arith

pub same_order : (rows : Rows) → Distinct rows → (i j : ℕ) (o p : Order) → At rows i o → At rows j p → o.ticket ≡ p.ticket → o ≡ p
same_order rows d i j o p a b e =
    let k : i ≡ j = d i j o p a b e in
    let a' : get_or rows j None ≡ Some o = rw k at a in
    cc

-- ---- what a test of two orders has to keep

record Beats (before : Order → Order → Bool) : Type 0 where
  one : (a b : Order) → a.ticket ≢ b.ticket → before a b ≡ not (before b a)
  chain : (a b c : Order) → before a b ≡ true → before b c ≡ true → before a c ≡ true

by_rank : (rank : Rank) → RankLaw rank → (s : Side) → Beats (ranked rank s)
by_rank rank L s =
    record {
      one = λ a b n. L.one s (proposal a) (proposal b) n;
      chain = λ a b c. L.chain s (proposal a) (proposal b) (proposal c);
    }

by_ticket : Beats earlier
by_ticket =
    record {
      one = λ a b n. order a.ticket b.ticket n;
      chain = λ a b c p q. lt-ltb a.ticket c.ticket (omega (arith, ltb-true a.ticket b.ticket p, ltb-true b.ticket c.ticket q));
    }
  where
    order : (m n : ℕ) → m ≢ n → ltb m n ≡ not (ltb n m)
    order m n d = grind (arith, ltb-true, ltb-false)

by_pick : (rank : Rank) → RankLaw rank → (pick : Pick) → Beats (beats rank pick)
by_pick rank L (Any s) = record { one = (by_rank rank L s).one; chain = (by_rank rank L s).chain }
by_pick rank L (Taking s q) = record { one = (by_rank rank L s).one; chain = (by_rank rank L s).chain }
by_pick rank L (Partner s q opener) = record { one = (by_rank rank L s).one; chain = (by_rank rank L s).chain }
by_pick rank L (Reaching q) = record { one = by_ticket.one; chain = by_ticket.chain }
by_pick rank L Brief = record { one = by_ticket.one; chain = by_ticket.chain }
by_pick rank L (Owned sender ticket) = record { one = by_ticket.one; chain = by_ticket.chain }

-- ---- what a search finds

pub record Top (before : Order → Order → Bool) (ok : Order → Bool) (rows : Rows) (f : Found) : Type 0 where
  pub here : At rows f.place f.order
  pub passes : ok f.order ≡ true
  pub first : (i : ℕ) (o : Order) → At rows i o → ok o ≡ true → o.ticket ≢ f.order.ticket → before f.order o ≡ true

abbrev IsBest : (Order → Order → Bool) → (Order → Bool) → Rows → Option Found → Type 0
IsBest before ok rows None = (i : ℕ) (o : Order) → At rows i o → ok o ≡ false
IsBest before ok rows (Some f) = Top before ok rows f

-- the same of the places below `n`
record TopTo (before : Order → Order → Bool) (ok : Order → Bool) (rows : Rows) (n : ℕ) (f : Found) : Type 0 where
  below : f.place < n
  here : At rows f.place f.order
  passes : ok f.order ≡ true
  first : (i : ℕ) → i < n → (o : Order) → At rows i o → ok o ≡ true → o.ticket ≢ f.order.ticket → before f.order o ≡ true

abbrev IsTo : (Order → Order → Bool) → (Order → Bool) → Rows → ℕ → Option Found → Type 0
IsTo before ok rows n None = (i : ℕ) → i < n → (o : Order) → At rows i o → ok o ≡ false
IsTo before ok rows n (Some f) = TopTo before ok rows n f

module _ (before : Order → Order → Bool) (ok : Order → Bool) (L : Beats before) (rows : Rows) (d : Distinct rows) where
  -- nothing that passes at `n`
  past_by : (n : ℕ) (acc : Option Found) → ((o : Order) → At rows n o → ok o ≡ false) → IsTo before ok rows n acc →
      IsTo before ok rows (n + 1) acc
  past_by n None h ih = below_more _ n ih h
  past_by n (Some f) h ih =
      record {
        below = omega (arith, ih.below);
        here = ih.here;
        passes = ih.passes;
        first = below_more _ n ih.first (λ o a y k. true_false _ y (h o a));
      }

  module _ (n : ℕ) (o : Order) (a : At rows n o) (y : ok o ≡ true) where
    itself : (f : Order → Type 0) → f o → (p : Order) → At rows n p → f p
    itself f h p b = let k : o ≡ p = cc in subst f k h

    taken : (f : Found) → IsTo before ok rows n (Some f) → (v : Bool) → before o f.order ≡ v →
        IsTo before ok rows (n + 1) (cond v (Some (found_at n o)) (Some f))
    taken f ih true e =
        record {
          below = omega arith;
          here = a;
          passes = y;
          first = below_more _ n
              (λ i l p b z k.
              ⊎_elim (λ w. subst (λ x. before o x ≡ true) (same_order rows d f.place i f.order p ih.here b (sym w)) e)
              (λ w. L.chain o f.order p e (ih.first i l p b z w)) (cases_eq p.ticket f.order.ticket))
              (itself (λ p. ok p ≡ true → p.ticket ≢ o.ticket → before o p ≡ true) (λ _ k. absurd (k refl)));
        }
    taken f ih false e =
        record {
          below = omega (arith, ih.below);
          here = ih.here;
          passes = ih.passes;
          first = below_more _ n ih.first
              (itself (λ p. ok p ≡ true → p.ticket ≢ f.order.ticket → before f.order p ≡ true)
              (λ _ k. L.one f.order o (λ w. k (sym w)) ∙ ap not e));
        }

    takes : (acc : Option Found) → IsTo before ok rows n acc → IsTo before ok rows (n + 1) (chosen before acc n o)
    takes None ih =
        record {
          below = omega arith;
          here = a;
          passes = y;
          first = below_more _ n (λ i l p b z k. true_false _ z (ih i l p b))
              (itself (λ p. ok p ≡ true → p.ticket ≢ o.ticket → before o p ≡ true) (λ _ k. absurd (k refl)));
        }
    takes (Some f) ih = taken f ih (before o f.order) refl

  more : (n : ℕ) (acc : Option Found) (r : Option Order) → get_or rows n None ≡ r → IsTo before ok rows n acc →
      IsTo before ok rows (n + 1) (looked before ok acc n r)
  more n acc None e ih = past_by n acc (λ o a. none_some o (sym e ∙ a)) ih
  more n acc (Some o) e ih = go (ok o) refl
    where
      go : (v : Bool) → ok o ≡ v → IsTo before ok rows (n + 1) (cond v (chosen before acc n o) acc)
      go true k = takes n o e k acc ih
      go false k = past_by n acc (λ p a. let h : o ≡ p = cc in subst (λ x. ok x ≡ false) h k) ih

  ended : (n : ℕ) (acc : Option Found) → length rows ≤ n → IsTo before ok rows n acc → IsBest before ok rows acc
  ended n None le ih = λ i o a. ih i (omega (arith, inside rows i o a)) o a
  ended n (Some f) le ih = record { here = ih.here; passes = ih.passes; first = λ i o a. ih.first i (omega (arith, inside rows i o a)) o a }

  scan_is : (rs : Rows) (n : ℕ) (acc : Option Found) → drop n rows ≡ rs → IsTo before ok rows n acc →
      IsBest before ok rows (scan before ok acc n rs)
  unfolding scan
  scan_is [] n acc e ih = ended n acc (omega (arith, ap length e, length-drop n rows)) ih
  scan_is (r ∷ rs) n acc e ih =
      let h : get_or rows n None ≡ r = simp add-zero at (sym (get_or-drop n rows 0 None) ∙ ap (λ z. get_or z 0 None) e) in
      scan_is rs (n + 1) (looked before ok acc n r) (sym (drop-drop 1 n rows) ∙ ap (drop 1) e) (more n acc r h ih)

  best_is : IsBest before ok rows (best before ok rows)
  best_is = scan_is rows 0 None refl (λ i l o a. absurd (omega arith))

abbrev pub IsFirst : Rank → Pick → Rows → Option Found → Type 0
IsFirst rank pick rows r = IsBest (beats rank pick) (picked pick) rows r

pub first_is : (rank : Rank) → RankLaw rank → (pick : Pick) (rows : Rows) → Distinct rows → IsFirst rank pick rows (first rank pick rows)
first_is rank L pick rows d = best_is (beats rank pick) (picked pick) (by_pick rank L pick) rows d
