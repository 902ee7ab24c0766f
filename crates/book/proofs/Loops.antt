-- The moves of a cross one after another: what each does, and that they come to an end.
use Rattle.std.proofs.Common.{◌≡◌, ℕ, zero, suc, ◌+◌, ◌<◌, ◌≤◌, min, Bool, true, false, cond, ◌||◌, ltb, ◌≢◌, ◌⊎◌, List, [], ◌∷◌, ◌++◌, map, length, Some, None, sum_by, Option, sym, refl, ap, ◌∙◌, subst, inl, inr, ⊎_elim, arith, length-append}
use Rattle.std.specs.List.{AllByRecursion}
use Rattle.std.proofs.ByRecursion.{All-append}
use Rattle.std.proofs.lemmas.Bool.{cases_eq, cond_both}
use Rattle.std.proofs.lemmas.List.Sums.{sum_by-append}
use Rattle.book.specs.Sides.{Side, Buy, Sell}
use Rattle.book.specs.Proposals.{Quote, Proposal, side_of}
use Rattle.book.specs.Ranks.{Rank, RankLaw}
use Rattle.book.specs.Tables.{At, left}
use Rattle.book.specs.Firsts.{Found}
use Rattle.book.specs.Moves.{Board, Frame, Party, Move, Stop, Ask, Deal, Strike, Halt, next}
use Rattle.book.specs.Makes.{Slip, board_of, with_row, lower_party, after, slip, number}
use Rattle.book.specs.Cross.{Run, ended, before, onwards, work}
use Rattle.book.specs.Moments.{delivers, without, halts, past, past_all}
use Rattle.book.specs.Opens.{Step, ByTaker, ByPair}
use Rattle.book.specs.Fair.{IsParty, price_by}
use Rattle.book.specs.FairSlips.{FairSlips}
use Rattle.book.specs.Ledger.{traded_by, out_by}
use Rattle.book.specs.Prices.{AllPrices, TradePasses}
use Rattle.book.specs.Sound.{Sound}
use Rattle.book.specs.Asked.{Asked}
use Rattle.book.specs.Lowered.{LoweredQuote}
use Rattle.book.specs.CrossLaws.{quotes, CrossLaws, EveryCross}
use Rattle.book.proofs.Bests.{none_some}
use Rattle.book.proofs.GoodMoves.{PartyAt, Pair, Good}
use Rattle.book.proofs.NextMoves.{next_good}
use Rattle.book.proofs.RowChanges.{lowered_chain, shrinks_by, shrunk_self, set_shrunk, freed_left, set_standing, some_stand}
use Rattle.book.proofs.Parties.{lowered_quote_chain, keeps_by, kept_self, kept_none, many, Less, less_self, less_chain}
use Rattle.book.proofs.Parties.{sound_less, party_less, party_left, party_many, party_fewer, party_after, party_told, gone_told}

-- ---- slips one after another

past_append : (xs ys : List Slip) (b : Board) → past_all (xs ++ ys) b ≡ past_all ys (past_all xs b)
past_append [] ys b = refl
past_append (x ∷ xs) ys b = past_append xs ys (past x b)

fair_append : (rank : Rank) (f : Frame) (xs ys : List Slip) (b : Board) → FairSlips rank f b xs →
    FairSlips rank f (past_all xs b) ys → FairSlips rank f b (xs ++ ys)
fair_append rank f [] ys b h k = k
fair_append rank f (x ∷ xs) ys b h k = (h.0, fair_append rank f xs ys (past x b) h.1 k)

abbrev slipped : ℕ → List Slip → ℕ
slipped t ss = sum_by (traded_by t) ss + sum_by (out_by t) ss

slipped_append : (t : ℕ) (xs ys : List Slip) → slipped t (xs ++ ys) ≡ slipped t xs + slipped t ys
slipped_append t xs ys = omega (arith, sum_by-append (traded_by t) xs ys, sum_by-append (out_by t) xs ys)

-- ---- an order gone from its place

freed_less : (b : Board) (x : Found) → At b.table.rows x.place x.order → Less (with_row b x.place None) b
freed_less b x a =
    record {
      rows = set_shrunk b.table.rows x.place None x.order a (λ p e. none_some p e);
      quote = kept_self b.quote;
      dark = λ k. k;
      few = omega (arith, set_standing b.table.rows x.place None x.order a);
    }

halted_less : (b : Board) (x : Found) → At b.table.rows x.place x.order → Less (after (Halt x) b) b
halted_less b x a =
    record {
      rows = set_shrunk b.table.rows x.place None x.order a (λ p e. none_some p e);
      quote = kept_none b.quote;
      dark = λ _ _. refl;
      few = omega (arith, set_standing b.table.rows x.place None x.order a);
    }

min_cases : (m n k : ℕ) → k ≡ min m n → (m ≤ k) ⊎ (n ≤ k)
min_cases m n k e = ⊎_elim (λ (h : m ≡ k). inl (omega arith)) (λ (h : m ≢ k). inr (omega arith)) (cases_eq m k)

-- ---- one move

-- a move that is no end of the cross
abbrev pub Goes : Move → Type 0
Goes Stop = ⊥
Goes (Ask t) = ⊥
Goes (Deal x y p n) = Unit {0}
Goes (Strike c x) = Unit {0}
Goes (Halt x) = Unit {0}

module _ (rank : Rank) (f : Frame) (b : Board) where
  -- between the two parties of a deal
  halfway : (x y : Party) (n : ℕ) → (P : Pair b x y n) → PartyAt (lower_party Buy n x b) Sell y P.selling
  halfway x y n P = party_after n b x y P.buying P.selling P.buyer P.seller P.apart

  pub less : (m : Move) → Good rank f b m → Less (after m b) b
  less Stop g = less_self b
  less (Ask t) g = less_self b
  less (Deal x y p n) g =
      less_chain (after (Deal x y p n) b) (lower_party Buy n x b) b
      (party_less Sell n (lower_party Buy n x b) y g.0.selling (halfway x y n g.0)) (party_less Buy n b x g.0.buying g.0.buyer)
  less (Strike c x) g = freed_less b x g.1
  less (Halt x) g = halted_less b x g.0

  accounts : (t : ℕ) → t ≢ 0 → (m : Move) → Good rank f b m → left t (after m b).table.rows + slipped t (slip m) ≡ left t b.table.rows
  accounts t z Stop g = omega arith
  accounts t z (Ask n) g = omega arith
  accounts t z (Deal x y p n) g =
      let P = g.0 in
      let buys = party_left Buy n b t z x P.buying P.buyer (omega (arith, P.smaller)) in
      let sells = party_left Sell n (lower_party Buy n x b) t z y P.selling (halfway x y n P) (omega (arith, P.smaller)) in
      omega (arith, buys, sells)
  accounts t z (Strike c x) g = omega (arith, freed_left t b.table.rows x.place x.order g.1)
  accounts t z (Halt x) g = omega (arith, freed_left t b.table.rows x.place x.order g.0)

  pub fewer : (m : Move) → Good rank f b m → Goes m → many (after m b) < many b
  fewer Stop g h = absurd h
  fewer (Ask t) g h = absurd h
  fewer (Deal x y p n) g h =
      let P = g.0 in
      let b' = lower_party Buy n x b in
      ⊎_elim
      (λ k. omega (arith, party_fewer Buy n b x P.buying P.buyer k, party_many Sell n b' y P.selling (halfway x y n P)))
      (λ k. omega (arith, party_many Buy n b x P.buying P.buyer, party_fewer Sell n b' y P.selling (halfway x y n P) k))
      (min_cases P.buying.pieces P.selling.pieces n P.smaller)
  fewer (Strike c x) g h = omega (arith, set_standing b.table.rows x.place None x.order g.1)
  fewer (Halt x) g h = omega (arith, set_standing b.table.rows x.place None x.order g.0)

  one_slip : (m : Move) → length (slip m) ≤ 1
  one_slip Stop = omega arith
  one_slip (Ask t) = omega arith
  one_slip (Deal x y p n) = omega arith
  one_slip (Strike c x) = omega arith
  one_slip (Halt x) = omega arith

  fair_slip : (m : Move) → Good rank f b m → FairSlips rank f b (slip m)
  fair_slip Stop g = tt
  fair_slip (Ask t) g = tt
  fair_slip (Deal x y p n) g = (g.1, tt)
  fair_slip (Strike c x) g = (record { place = x.place; order = x.order; stands = g.1; named = refl; all = refl; why = g.2 }, tt)
  fair_slip (Halt x) g = (record { place = x.place; order = x.order; stands = g.0; named = refl; all = refl; why = g.1 }, tt)

  -- a party's price stood before, and a trade's price is a party's
  party_price : (test : ℕ → Bool) → AllPrices test b → (s : Side) (n : ℕ) (p : Proposal) → IsParty b s n p → test p.price ≡ true
  party_price test h s n p (inl w) = rw w.1.2 (h.quote w.1.0 w.1.1 s)
  party_price test h s n p (inr w) = rw w.0.is (h.orders w.0.place w.0.order w.0.stands)

  step_price : (test : ℕ → Bool) (step : Step) (x y : Proposal) → test x.price ≡ true → test y.price ≡ true →
      test (price_by step x y) ≡ true
  step_price test (ByTaker q Buy) x y hx hy = hy
  step_price test (ByTaker q Sell) x y hx hy = hx
  step_price test ByPair x y hx hy = cond_both (ltb x.number y.number) _ _ (λ z. test z ≡ true) (λ _. hx) (λ _. hy)

  slip_price : (test : ℕ → Bool) → AllPrices test b → (m : Move) → Good rank f b m → AllByRecursion (TradePasses test) (slip m)
  slip_price test h Stop g = tt
  slip_price test h (Ask t) g = tt
  slip_price test h (Deal x y p n) g =
      let F = g.1 in (
        rw F.priced (step_price test F.step F.buys.party F.sells.party
            (party_price test h Buy (number x) F.buys.party F.buys.stands) (party_price test h Sell (number y) F.sells.party F.sells.stands)),
        tt,
      )
  slip_price test h (Strike c x) g = (tt, tt)
  slip_price test h (Halt x) g = (tt, tt)

  -- the slip tells what the move did
  pub tells : Sound f b → (m : Move) → Good rank f b m → past_all (slip m) b ≡ after m b
  tells S Stop g = refl
  tells S (Ask t) g = refl
  tells S (Deal x y p n) g =
      let P = g.0 in
      let b' = lower_party Buy n x b in
      ap (delivers Sell (number y) n) (party_told f b S Buy n x P.buying P.buyer)
      ∙ party_told f b' (sound_less f b' b (party_less Buy n b x P.buying P.buyer) S) Sell n y P.selling (halfway x y n P)
  tells S (Strike c x) g = go (halts c) g.0
    where
      go : (v : Bool) → v ≡ false →
          board_of (map (without x.order.ticket) b.table.rows) (cond v None b.quote) (v || b.halted) ≡ with_row b x.place None
      go true e = let z : ◌≡◌ {A = ℕ} 0 1 = cc in absurd (omega arith)
      go false e = ap (λ rows. board_of rows b.quote b.halted) (gone_told f b S x g.1)
  tells S (Halt x) g = ap (λ rows. board_of rows None true) (gone_told f b S x g.0)

side_price : (new old : Quote) → LoweredQuote new old → (s : Side) → (side_of new s).price ≡ (side_of old s).price
side_price new old l Buy = l.bid
side_price new old l Sell = l.ask

prices_less : (test : ℕ → Bool) (new old : Board) → Less new old → AllPrices test old → AllPrices test new
prices_less test new old l h =
    record {
      orders = λ i o a. let x = shrinks_by _ _ l.rows i o a in rw x.2.price (h.orders i x.0 x.1);
      quote = λ q e s. let x = keeps_by _ _ l.quote q e in rw (side_price q x.0 x.2 s) (h.quote x.0 x.1 s);
    }

-- ---- all of them

pub one_quote : (q : Option Quote) → quotes q ≤ 1
one_quote None = omega arith
one_quote (Some q) = omega arith

module _ (rank : Rank) (f : Frame) where
  short : (b : Board) (m : Move) (r : Run) → Good rank f b m → Goes m → CrossLaws rank f (after m b) r →
      length (slip m ++ r.slips) ≤ many b
  short b m r g h E = omega (arith, length-append (slip m) r.slips, one_slip rank f b m, fewer rank f b m g h, E.few)

  goes_on : (b : Board) (m : Move) (r : Run) → Sound f b → Good rank f b m → Goes m → CrossLaws rank f (after m b) r →
      CrossLaws rank f b (before (slip m) r)
  goes_on b m r S g h E =
      let t = tells rank f b S m g in
      let l = less rank f b m g in
      record {
        course = record {
          told = E.course.told ∙ ap (past_all r.slips) (sym t) ∙ sym (past_append (slip m) r.slips b);
          fair = fair_append rank f (slip m) r.slips b (fair_slip rank f b m g) (subst (λ z. FairSlips rank f z r.slips) (sym t) E.course.fair);
          asks = E.course.asks;
          quiet = E.course.quiet;
          spent = E.course.spent;
        };
        ledger = λ n z. omega (arith, E.ledger n z, accounts rank f b n z m g, slipped_append n (slip m) r.slips);
        prices = λ test h. All-append (TradePasses test) (slip m) r.slips (slip_price rank f b test h m g)
            (E.prices test (prices_less test (after m b) b l h));
        ends = E.ends;
        few = short b m r g h E;
        fit = omega (arith, short b m r g h E, S.rows.few, one_quote b.quote);
        sound = E.sound;
        shrinks = λ i o a.
            let x = E.shrinks i o a in
            let y = shrinks_by _ _ l.rows i x.0 x.1 in
            (y.0, y.1, lowered_chain o x.0 y.0 x.2 y.2);
        keeps_quote = λ q e.
            let x = E.keeps_quote q e in
            let y = keeps_by _ _ l.quote x.0 x.1 in
            (y.0, y.1, lowered_quote_chain q x.0 y.0 x.2 y.2);
      }

  on_with : (b : Board) (n : ℕ) (m : Move) (r : Run) → Sound f b → Good rank f b m → Goes m → many b ≤ suc n →
      (Sound f (after m b) → many (after m b) ≤ n → CrossLaws rank f (after m b) r) → CrossLaws rank f b (before (slip m) r)
  on_with b n m r S g h le ih =
      goes_on b m r S g h (ih (sound_less f (after m b) b (less rank f b m g) S) (omega (arith, fewer rank f b m g h)))

  ends_here : (b : Board) (asked : Option ℕ) → Sound f b → (asked ≡ None → next rank f b ≡ Stop) →
      ((t : ℕ) → asked ≡ Some t → Asked rank f b t) →
      (asked ≡ None → Good rank f b Stop) → CrossLaws rank f b (ended b asked)
  ends_here b asked S e a g =
      record {
        course = record { told = refl; fair = tt; asks = a; quiet = λ k. (g k).0; spent = λ k. (g k).1 };
        ledger = λ n z. omega arith;
        prices = λ _ _. tt;
        ends = e;
        few = omega arith;
        fit = omega arith;
        sound = S;
        shrinks = shrinks_by _ _ (shrunk_self b.table.rows);
        keeps_quote = keeps_by _ _ (kept_self b.quote);
      }

  turn : (b : Board) (n : ℕ) (m : Move) (r : Run) → Sound f b → next rank f b ≡ m → Good rank f b m → many b ≤ suc n →
      (Sound f (after m b) → many (after m b) ≤ n → CrossLaws rank f (after m b) r) → CrossLaws rank f b (onwards m b r)
  turn b n Stop r S e g le ih = ends_here b None S (λ _. e) (λ t k. none_some t k) (λ _. g)
  turn b n (Ask t) r S e g le ih = ends_here b (Some t) S (λ k. none_some t (sym k)) (λ u k. asked u k) (λ k. none_some t (sym k))
    where
      asked : (u : ℕ) → Some t ≡ Some u → Asked rank f b u
      asked u k = let z : t ≡ u = cc in subst (Asked rank f b) z g
  turn b n (Deal x y p k) r S e g le ih = on_with b n (Deal x y p k) r S g tt le ih
  turn b n (Strike c x) r S e g le ih = on_with b n (Strike c x) r S g tt le ih
  turn b n (Halt x) r S e g le ih = on_with b n (Halt x) r S g tt le ih

  -- where nothing stands there is nothing to do
  idle : (b : Board) (m : Move) → Good rank f b m → many b ≤ 0 → m ≡ Stop
  idle b Stop g le = refl
  idle b (Ask t) g le = absurd (omega (arith, some_stand b.table.rows g.place g.order g.stands))
  idle b (Deal x y p n) g le = absurd (omega (arith, fewer rank f b (Deal x y p n) g tt))
  idle b (Strike c x) g le = absurd (omega (arith, fewer rank f b (Strike c x) g tt))
  idle b (Halt x) g le = absurd (omega (arith, fewer rank f b (Halt x) g tt))

  works : RankLaw rank → (n : ℕ) (b : Board) → Sound f b → many b ≤ n → CrossLaws rank f b (work rank f n b)
  unfolding work
  works L zero b S le =
      let e : next rank f b ≡ Stop = idle b (next rank f b) (next_good rank L f b S) le in
      ends_here b None S (λ _. e) (λ t k. none_some t k) (λ _. subst (Good rank f b) e (next_good rank L f b S))
  works L (suc n) b S le =
      turn b n (next rank f b) (work rank f n (after (next rank f b) b)) S refl (next_good rank L f b S) le
      (λ s k. works L n (after (next rank f b) b) s k)

pub every_cross : EveryCross
every_cross rank L f b S = works rank f L 129 b S (omega (arith, S.rows.few, one_quote b.quote))
