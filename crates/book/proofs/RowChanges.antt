-- The table under one change: what stands afterwards, what it is worth, how many orders stand.
use Rattle.std.proofs.Common.{◌≡◌, ℕ, zero, suc, ◌+◌, ◌-◌, ◌<◌, ◌≤◌, Bool, true, false, cond, eqb, ltb, ◌≢◌, [], ◌∷◌, map, length, get_or, set, Some, None, Option, sym, refl, ap, ◌∙◌, subst, ⊎_elim, arith}
use Rattle.std.proofs.lemmas.Bool.{cases_eq, cond_both, le-ltb, ltb-true, ltb-false}
use Rattle.std.proofs.lemmas.List.Sums.{sum_by-cons, sum_by-set, get_or-le-sum_by}
use Rattle.std.proofs.lemmas.List.{same_lists, length-set, length-map, get_or-set_same, get_or-set_other, get_or_default}
use Rattle.book.specs.Proposals.{Order}
use Rattle.book.specs.Tables.{Rows, At, lower, worth, left, one, standing}
use Rattle.book.specs.Lowered.{Lowered, Shrinks}
use Rattle.book.proofs.Bests.{none_some, inside}

-- ---- nothing new stands

lowered_self : (o : Order) → Lowered o o
lowered_self o = record { ticket = refl; sender = refl; side = refl; price = refl; brief = refl; pieces = omega arith }

pub lowered_chain : (a b c : Order) → Lowered a b → Lowered b c → Lowered a c
lowered_chain a b c x y =
    record {
      ticket = x.ticket ∙ y.ticket;
      sender = x.sender ∙ y.sender;
      side = x.side ∙ y.side;
      price = x.price ∙ y.price;
      brief = x.brief ∙ y.brief;
      pieces = omega (arith, x.pieces, y.pieces);
    }

-- an order follows another: lowered, and not to nothing
pub record Follows (new old : Order) : Type 0 where
  pub lowered : Lowered new old
  pub some : 1 ≤ old.pieces → 1 ≤ new.pieces

follows_self : (o : Order) → Follows o o
follows_self o = record { lowered = lowered_self o; some = λ k. k }

abbrev pub Shrunk : Rows → Rows → Type 0
Shrunk new old = (i : ℕ) (o : Order) → At new i o → (was : Order) × (At old i was) × Follows o was

pub shrinks_by : (new old : Rows) → Shrunk new old → Shrinks new old
shrinks_by new old s i o a = let x = s i o a in (x.0, x.1, x.2.lowered)

pub shrunk_self : (rows : Rows) → Shrunk rows rows
shrunk_self rows i o h = (o, h, follows_self o)

pub shrunk_chain : (a b c : Rows) → Shrunk a b → Shrunk b c → Shrunk a c
shrunk_chain a b c f g i o h =
    let x = f i o h in
    let y = g i x.0 x.1 in
    (y.0, y.1, record { lowered = lowered_chain o x.0 y.0 x.2.lowered y.2.lowered; some = λ k. x.2.some (y.2.some k) })

pub set_shrunk : (rows : Rows) (i : ℕ) (x : Option Order) (o : Order) → At rows i o → ((p : Order) → x ≡ Some p → Follows p o) →
    Shrunk (set rows i x) rows
set_shrunk [] i x o a s = shrunk_self []
set_shrunk (r ∷ rs) zero x o a s = go
  where
    go : Shrunk (x ∷ rs) (r ∷ rs)
    go zero p h = (o, a, s p h)
    go (suc j) p h = (p, h, follows_self p)
set_shrunk (r ∷ rs) (suc i) x o a s = go (set_shrunk rs i x o a s)
  where
    go : Shrunk (set rs i x) rs → Shrunk (r ∷ set rs i x) (r ∷ rs)
    go k zero p h = (p, h, follows_self p)
    go k (suc j) p h = k j p h

pub lower_follows : (n : ℕ) (o p : Order) → lower n o ≡ Some p → Follows p o
lower_follows n o p =
    cond_both (ltb n o.pieces) _ _ (λ z. z ≡ Some p → Follows p o)
    (λ l e. back e
    (record {
      lowered = record { ticket = refl; sender = refl; side = refl; price = refl; brief = refl; pieces = omega arith };
      some = λ _. omega (arith, ltb-true n o.pieces l);
    }))
    (λ _ e. none_some p e)
  where
    back : {x : Order} → Some x ≡ Some p → Follows x o → Follows p o
    back {x} e h = let k : x ≡ p = cc in subst (λ z. Follows z o) k h

-- ---- what a ticket is worth, and how many orders stand

lower_worth : (t n : ℕ) (o : Order) → n ≤ o.pieces → worth t (lower n o) + cond (eqb o.ticket t) n 0 ≡ worth t (Some o)
lower_worth t n o le =
    cond_both (ltb n o.pieces) _ _ (λ z. worth t z + cond (eqb o.ticket t) n 0 ≡ worth t (Some o))
    (λ e. cases (eqb o.ticket t))
    (λ e. free (eqb o.ticket t) (ltb-false n o.pieces e))
  where
    cases : (v : Bool) → cond v (o.pieces - n) 0 + cond v n 0 ≡ cond v o.pieces 0
    cases true = omega arith
    cases false = refl

    free : (v : Bool) → o.pieces ≤ n → 0 + cond v n 0 ≡ cond v o.pieces 0
    free true k = omega arith
    free false k = refl

set_left : (t : ℕ) (rows : Rows) (i : ℕ) (x : Option Order) (o : Order) → At rows i o →
    left t (set rows i x) + worth t (Some o) ≡ left t rows + worth t x
set_left t rows i x o a = let k = sum_by-set (worth t) rows i x None (inside rows i o a) in rw a at k

pub lowered_left : (t n : ℕ) (rows : Rows) (i : ℕ) (o : Order) → At rows i o → n ≤ o.pieces →
    left t (set rows i (lower n o)) + cond (eqb o.ticket t) n 0 ≡ left t rows
lowered_left t n rows i o a le = omega (arith, set_left t rows i (lower n o) o a, lower_worth t n o le)

pub freed_left : (t : ℕ) (rows : Rows) (i : ℕ) (o : Order) → At rows i o →
    left t (set rows i None) + cond (eqb o.ticket t) o.pieces 0 ≡ left t rows
freed_left t rows i o a = omega (arith, set_left t rows i None o a)

pub set_standing : (rows : Rows) (i : ℕ) (x : Option Order) (o : Order) → At rows i o → standing (set rows i x) + 1 ≡ standing rows + one x
set_standing rows i x o a = let k = sum_by-set one rows i x None (inside rows i o a) in rw a at k

pub one_le : (r : Option Order) → one r ≤ 1
one_le None = omega arith
one_le (Some o) = omega arith

pub lower_none : (n : ℕ) (o : Order) → o.pieces ≤ n → one (lower n o) ≡ 0
lower_none n o le = rw (le-ltb n o.pieces le)

pub some_stand : (rows : Rows) (i : ℕ) (o : Order) → At rows i o → 1 ≤ standing rows
some_stand rows i o a =
    let k = get_or-le-sum_by one rows i None (inside rows i o a) in
    let m : one (Some o) ≤ standing rows = rw a at k in m

-- no more orders stand than there are places
pub standing_fits : (rows : Rows) → standing rows ≤ length rows
standing_fits [] = omega arith
standing_fits (r ∷ rs) = omega (arith, sum_by-cons one r rs, one_le r, standing_fits rs)

-- ---- a change of each row that touches one place, or none

pub map_same : (g : Option Order → Option Order) (rows : Rows) → ((k : ℕ) → g (get_or rows k None) ≡ get_or rows k None) → map g rows ≡ rows
map_same g [] h = refl
map_same g (r ∷ rs) h = let k = map_same g rs (λ k. h (suc k)) in let e : g r ≡ r = h 0 in cc

pub map_one : (g : Option Order → Option Order) → g None ≡ None → (rows : Rows) (i : ℕ) (x : Option Order) → i < length rows →
    g (get_or rows i None) ≡ x → ((k : ℕ) → k ≢ i → g (get_or rows k None) ≡ get_or rows k None) → map g rows ≡ set rows i x
map_one g gn rows i x li ex other =
    same_lists _ _ (length-map rows g ∙ sym (length-set rows i x))
    (λ k d h. get_or_default _ k d None h ∙ point k ∙ get_or_default _ k None d (omega (arith, length-map rows g, length-set rows i x)))
  where
    mapped : (rs : Rows) (k : ℕ) → get_or (map g rs) k None ≡ g (get_or rs k None)
    mapped [] k = sym gn
    mapped (r ∷ rs) zero = refl
    mapped (r ∷ rs) (suc k) = mapped rs k

    point : (k : ℕ) → get_or (map g rows) k None ≡ get_or (set rows i x) k None
    point k =
        mapped rows k
        ∙ ⊎_elim
        (λ (e : k ≡ i). ap (λ z. g (get_or rows z None)) e ∙ ex ∙ sym (ap (λ z. get_or (set rows i x) z None) e ∙ get_or-set_same rows i x None li))
        (λ (n : k ≢ i). other k n ∙ sym (get_or-set_other rows i k x None n))
        (cases_eq k i)
