-- What holds of a book between calls.
use Rattle.std.proofs.Common.{◌≡◌, ℕ, ◌+◌, ◌<◌, ◌≤◌, Bool, true, false, ◌≢◌, length, Some, None, Option, sym, refl, ap, ◌∙◌, ⊎_elim, arith}
use Rattle.book.specs.Lowered.{Lowered, Shrinks}
use Rattle.book.specs.Makes.{board_of}
use Rattle.book.specs.Picks.{reaches}
use Rattle.book.specs.Quiet.{Quiet}
use Rattle.book.specs.Sound.{SoundRows}
use Rattle.book.specs.Tables.{At, Rows, one, place, standing}
use Rattle.book.specs.declared.frame.Frame.{Frame}
use Rattle.book.specs.declared.order.Order.{Order}
use Rattle.book.specs.declared.quote.Quote.{Quote}
use Rattle.book.specs.declared.side.Side.{Side}
use Rattle.book.specs.declared.side.Side.TheVariants.{Buy, Sell}
use Rattle.book.proofs.Bests.{none_some}
use Rattle.book.proofs.Parties.{kept_self, sound_less}
use Rattle.book.proofs.RowChanges.{Shrunk}
use Rattle.session.specs.Phases.{Phase, is_asked, quote_of}
use Rattle.session.proofs.Placings.{place_at, place_distinct, place_length, place_sum}

pub record GoodRows (test : ℕ → Bool) (rows : Rows) (count : ℕ) : Type 0 where
  pub size : length rows ≡ 128
  pub sound : SoundRows rows
  pub low : (i : ℕ) (o : Order) → At rows i o → o.ticket ≤ count
  pub within : (i : ℕ) (o : Order) → At rows i o → test o.price ≡ true

pub record GoodQuote (test : ℕ → Bool) (rows : Rows) (count : ℕ) (q : Quote) : Type 0 where
  pub in_order : q.bid ≤ q.ask
  pub some_bid : 1 ≤ q.bid_pieces
  pub some_ask : 1 ≤ q.ask_pieces
  pub bid_within : test q.bid ≡ true
  pub ask_within : test q.ask ≡ true
  pub apart : (i : ℕ) (o : Order) → At rows i o → o.ticket ≢ q.number
  pub low : q.number ≤ count

pub record Good (test : ℕ → Bool) (rows : Rows) (phase : Phase) (count : ℕ) : Type 0 where
  pub table : GoodRows test rows count
  pub quote : (q : Quote) → quote_of phase ≡ Some q → GoodQuote test rows count q
  pub brief : is_asked phase ≡ false → (i : ℕ) (o : Order) → At rows i o → o.brief ≡ false

-- ---- fewer rows
pub any_frame : Frame
any_frame = record { bid = 0; ask = 0; opener = None; entered = false; dynamic = 0; limit = 0 }

pub rows_less : (new old : Rows) → Shrunk new old → standing new ≤ standing old → SoundRows old → SoundRows new
rows_less new old s l R =
    (sound_less any_frame (board_of new None false) (board_of old None false)
    (record { rows = s; quote = kept_self None; dark = λ _ e. refl; few = l })
    (record { rows = R; quote = λ q e. none_some q e; halted_dark = λ e. refl })).rows

pub table_less : (test : ℕ → Bool) (new old : Rows) (count : ℕ) → Shrunk new old → standing new ≤ standing old →
    length new ≡ length old → GoodRows test old count → GoodRows test new count
table_less test new old count s l e T =
    record {
      size = e ∙ T.size;
      sound = rows_less new old s l T.sound;
      low = λ i o a. let x = s i o a in omega (arith, T.low i x.0 x.1, x.2.lowered.ticket);
      within = λ i o a. let x = s i o a in rw x.2.lowered.price (T.within i x.0 x.1);
    }

pub quote_less : (test : ℕ → Bool) (new old : Rows) (count : ℕ) (q : Quote) → Shrinks new old → GoodQuote test old count q →
    GoodQuote test new count q
quote_less test new old count q s Q =
    record {
      in_order = Q.in_order;
      some_bid = Q.some_bid;
      some_ask = Q.some_ask;
      bid_within = Q.bid_within;
      ask_within = Q.ask_within;
      apart = λ i o a z. let x = s i o a in Q.apart i x.0 x.1 (sym x.2.ticket ∙ z);
      low = Q.low;
    }

-- with less, or without its quote, a quiet book stays quiet
pub quiet_less : (new old : Rows) (q : Option Quote) → Shrinks new old → Quiet old q → Quiet new q
quiet_less new old q s Q =
    record {
      apart = λ i j x y a b u v.
          let p = s i x a in
          let r = s j y b in
          omega (arith, p.2.price, r.2.price, Q.apart i j p.0 r.0 p.1 r.1 (sym p.2.side ∙ u) (sym r.2.side ∙ v));
      unreached = λ quote i x e a.
          let p = s i x a in
          reach_same quote p.0 x p.2 (Q.unreached quote i p.0 e p.1);
    }
  where
    reach_same : (q : Quote) (x x' : Order) → Lowered x' x → reaches q x x.side ≡ false → reaches q x' x'.side ≡ false
    reach_same q x x' f h = rw f.side (go x.side h)
      where
        go : (side : Side) → reaches q x side ≡ false → reaches q x' side ≡ false
        go Buy k = rw f.price k
        go Sell k = rw f.price k

-- ---- one order more
module _ (test : ℕ → Bool) (rows : Rows) (count : ℕ) (T : GoodRows test rows count) (o : Order) (fresh : o.ticket ≡ count + 1) where
  pub table_more : standing rows < 128 → test o.price ≡ true → 1 ≤ o.pieces → GoodRows test (place o rows) o.ticket
  table_more space within some =
      record {
        size = place_length o rows ∙ T.size;
        sound = record {
          distinct = place_distinct o rows T.sound.distinct (λ i p a e. omega (arith, T.low i p a, e, fresh));
          named = λ i p a e.
              ⊎_elim (λ h. T.sound.named i p h e) (λ (k : p ≡ o). omega (arith, ap (λ z. z.ticket) k, e, fresh)) (place_at o rows i p a);
          some = λ i p a. ⊎_elim (λ h. T.sound.some i p h) (λ (k : p ≡ o). rw k some) (place_at o rows i p a);
          few = omega (arith, place_sum one refl o rows (omega (arith, T.size, space)), space);
        };
        low = λ i p a.
            ⊎_elim (λ h. omega (arith, T.low i p h, fresh)) (λ (k : p ≡ o). omega (arith, ap (λ z. z.ticket) k)) (place_at o rows i p a);
        within = λ i p a. ⊎_elim (λ h. T.within i p h) (λ (k : p ≡ o). rw k within) (place_at o rows i p a);
      }

  pub quote_more : (q : Quote) → GoodQuote test rows count q → GoodQuote test (place o rows) o.ticket q
  quote_more q Q =
      record {
        in_order = Q.in_order;
        some_bid = Q.some_bid;
        some_ask = Q.some_ask;
        bid_within = Q.bid_within;
        ask_within = Q.ask_within;
        apart = λ i p a z.
            ⊎_elim (λ k. Q.apart i p k z) (λ (k : p ≡ o). omega (arith, ap (λ v. v.ticket) k, z, fresh, Q.low)) (place_at o rows i p a);
        low = omega (arith, Q.low, fresh);
      }
