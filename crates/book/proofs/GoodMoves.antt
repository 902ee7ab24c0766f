-- What a good move is, and what its parts have in common.
use Rattle.std.proofs.Common.{◌≡◌, ℕ, ◌≤◌, min, Bool, true, false, cond, Some, None, sym, refl, subst, inl, inr, arith}
use Rattle.std.proofs.lemmas.Bool.{leb-true, leb-false, lt-ltb, ltb-true}
use Rattle.book.specs.Sides.{Side, Buy, Sell, same_side, opposite}
use Rattle.book.specs.Proposals.{Order, Quote, Proposal, proposal, side_of}
use Rattle.book.specs.Ranks.{Rank, better}
use Rattle.book.specs.Picks.{reaches}
use Rattle.book.specs.Tables.{At}
use Rattle.book.specs.Firsts.{Found}
use Rattle.book.specs.Moves.{Board, Frame, Party, Move, Stop, Ask, Deal, Strike, Halt}
use Rattle.book.specs.Makes.{number}
use Rattle.book.specs.Moments.{halts}
use Rattle.book.specs.Opens.{IsOrder, Step, IsStep, Leads}
use Rattle.book.specs.Fair.{IsParty, Keeps, Served, Fair}
use Rattle.book.specs.Quiet.{Quiet}
use Rattle.book.specs.Outs.{Meets, Beyond, Why}
use Rattle.book.specs.Sound.{Sound}
use Rattle.book.specs.Asked.{Asked}
use Rattle.book.proofs.Bests.{true_false}

-- ---- what a good move is

-- a party of a deal: where it stands, and what it proposes
abbrev pub PartyAt : Board → Side → Party → Proposal → Type 0
PartyAt b s (Some x) p = At b.table.rows x.place x.order × (x.order.side ≡ s) × (p ≡ proposal x.order)
PartyAt b s None p = (q : Quote) × (b.quote ≡ Some q) × (p ≡ side_of q s)

-- the quote does not trade with itself
abbrev pub Apart : Party → Party → Type 0
Apart None None = ⊥
Apart None (Some y) = Unit {0}
Apart (Some x) y = Unit {0}

pub record Pair (b : Board) (x y : Party) (n : ℕ) : Type 0 where
  pub buying : Proposal
  pub selling : Proposal
  pub buyer : PartyAt b Buy x buying
  pub seller : PartyAt b Sell y selling
  pub apart : Apart x y
  pub smaller : n ≡ min buying.pieces selling.pieces

abbrev pub Good : Rank → Frame → Board → Move → Type 0
Good rank f b Stop = (b.halted ≡ false → Quiet b.table.rows b.quote) × ((i : ℕ) (o : Order) → At b.table.rows i o → o.brief ≡ false)
Good rank f b (Ask t) = Asked rank f b t
Good rank f b (Deal x y p n) = Pair b x y n × Fair rank f b p n (number x) (number y)
Good rank f b (Strike c x) = (halts c ≡ false) × At b.table.rows x.place x.order × Why rank f b c x.order
Good rank f b (Halt x) = At b.table.rows x.place x.order × Beyond rank f b x.order

-- ---- sides and prices

pub same_side_lem : (a b : Side) → same_side a b ≡ true → a ≡ b
same_side_lem Buy Buy e = refl
same_side_lem Buy Sell e = true_false false e refl
same_side_lem Sell Buy e = true_false false e refl
same_side_lem Sell Sell e = refl

pub side_same : (a b : Side) → a ≡ b → same_side a b ≡ true
side_same a b e = subst (λ x. same_side a x ≡ true) e (itself a)
  where
    itself : (s : Side) → same_side s s ≡ true
    itself Buy = refl
    itself Sell = refl

pub keeps_self : (s : Side) (price : ℕ) → Keeps s price price
keeps_self Buy price = omega arith
keeps_self Sell price = omega arith

-- a taker keeps its price at any price from bid to ask
pub keeps_taker : (s : Side) (q : Quote) (o : Order) (price : ℕ) → reaches q o s ≡ true → q.bid ≤ price → price ≤ q.ask →
    Keeps s price o.price
keeps_taker Buy q o price r lo hi = omega (arith, leb-true q.ask o.price r)
keeps_taker Sell q o price r lo hi = omega (arith, leb-true o.price q.bid r)

pub beyond : (s : Side) (q : Quote) (t o : Order) → reaches q t s ≡ true → reaches q o s ≡ false → better s t.price o.price ≡ true
beyond Buy q t o y n = lt-ltb o.price t.price (omega (arith, leb-true q.ask t.price y, leb-false q.ask o.price n))
beyond Sell q t o y n = lt-ltb t.price o.price (omega (arith, leb-true t.price q.bid y, leb-false o.price q.bid n))

pub not_better : (s : Side) (p : ℕ) → better s p p ≡ true → ⊥
not_better Buy p e = omega (arith, ltb-true p p e)
not_better Sell p e = omega (arith, ltb-true p p e)

pub cond_price : (v : Bool) (x y : Found) → (cond v x y).order.price ≡ cond v x.order.price y.order.price
cond_price true x y = refl
cond_price false x y = refl

-- ---- the parties of a trade

abbrev pub is_order : (b : Board) (s : Side) (x : Found) → At b.table.rows x.place x.order → x.order.side ≡ s →
    IsOrder b s (proposal x.order)
is_order b s x a e = record { place = x.place; order = x.order; stands = a; side = e; is = refl }

pub is_party : (b : Board) (s : Side) (x : Party) (p : Proposal) → PartyAt b s x p → IsParty b s (number x) p
is_party b s (Some x) p h = inr (record { place = x.place; order = x.order; stands = h.0; side = h.1; is = h.2 }, refl)
is_party b s None p h = inl (refl, h)

abbrev pub meets_from : (rank : Rank) (f : Frame) (b : Board) → b.halted ≡ false →
    (step : Step) (s : Side) (o : Order) (other : Proposal) → IsStep b step → o.side ≡ s → Leads rank f b step s (proposal o) →
    Leads rank f b step (opposite s) other → Keeps s other.price o.price → Meets rank f b o other
meets_from rank f b up step s o other is e l m k =
    record {
      running = up;
      step = step;
      is_step = is;
      leads = subst (λ z. Leads rank f b step z (proposal o)) (sym e) l;
      other_leads = subst (λ z. Leads rank f b step (opposite z) other) (sym e) m;
      keeps = subst (λ z. Keeps z other.price o.price) (sym e) k;
    }

abbrev pub served_row : (rank : Rank) (f : Frame) (b : Board) → Sound f b → (step : Step) (price : ℕ) (s : Side) (x : Found) →
    At b.table.rows x.place x.order → x.order.side ≡ s →
    Keeps s price x.order.price → Leads rank f b step s (proposal x.order) → Served rank f b step price s x.order.ticket
served_row rank f b S step price s x a e k l =
    record {
      party = proposal x.order;
      stands = inr (is_order b s x a e, refl);
      keeps = k;
      exact = λ z. absurd (S.rows.named _ _ a z);
      unasked = λ z. absurd (S.rows.named _ _ a z);
      leads = l;
    }
