-- A cross in a good book leaves a good book, and keeps the laws.
use Rattle.std.proofs.Common.{◌≡◌, ℕ, ◌+◌, ◌≤◌, Bool, true, false, ◌||◌, List, [], ◌∷◌, length, Some, None, sum_by, Option, sym, refl, ap, ◌∙◌, subst, arith}
use Rattle.std.specs.List.{AllByRecursion}
use Rattle.std.proofs.lemmas.Bool.{cond_both, or_from}
use Rattle.book.specs.Asked as book
use Rattle.book.specs.Boards.{Board}
use Rattle.book.specs.Cross.{Run, cross}
use Rattle.book.specs.CrossLaws.{CrossLaws}
use Rattle.book.specs.FairSlips.{FairSlips}
use Rattle.book.specs.Ledger.{Ledger}
use Rattle.book.specs.Lowered.{LoweredQuote, Shrinks}
use Rattle.book.specs.Makes.{board_of}
use Rattle.book.specs.Moments.{halts, past, past_all}
use Rattle.book.specs.Prices.{AllPrices, TradePasses}
use Rattle.book.specs.Proposals.{side_of}
use Rattle.book.specs.Quiet.{Quiet}
use Rattle.book.specs.Ranks.{RankLaw}
use Rattle.book.specs.Sound.{Sound}
use Rattle.book.specs.Tables.{At, Rows, standing}
use Rattle.book.specs.declared.frame.Frame.{Frame}
use Rattle.book.specs.declared.order.Order.{Order}
use Rattle.book.specs.declared.quote.Quote.{Quote}
use Rattle.book.specs.declared.side.Side.{Side}
use Rattle.book.specs.declared.side.Side.TheVariants.{Buy, Sell}
use Rattle.book.specs.declared.slip.Slip.{Slip}
use Rattle.book.specs.declared.slip.Slip.TheVariants.{Trade, Out}
use Rattle.book.proofs.Bests.{none_some, true_false}
use Rattle.book.proofs.Loops.{every_cross, one_quote}
use Rattle.session.specs.Calls.{done_on, out_on}
use Rattle.session.specs.Days.{Day, State}
use Rattle.session.specs.Phases.{Asked, Halted, Rfe, is_asked, is_halted, quote_of}
use Rattle.session.specs.Runs.{Acted, asked_by, crossing, frame_of, left_by, lit_by, phase_by}
use Rattle.session.specs.Closing.{held_in}
use Rattle.session.specs.StoryPhases.{quote_left, remaining, some_stops}
use Rattle.session.proofs.Balances.{balance, outs_named, past_length}
use Rattle.session.proofs.Goods.{Good, GoodQuote, GoodRows}

-- ---- the phase that a cross leaves
quote_lit : (o : Option Quote) → quote_of (lit_by o) ≡ o
quote_lit None = refl
quote_lit (Some q) = refl

quote_asked : (t due : ℕ) (o : Option Quote) → quote_of (asked_by t due o) ≡ o
quote_asked t due None = refl
quote_asked t due (Some q) = refl

phase_quote : (d : Day) (clock : ℕ) (asked : Option ℕ) (b : Board) (q : Quote) → quote_of (phase_by d clock asked b) ≡ Some q →
    b.quote ≡ Some q
phase_quote d clock (Some t) b q = λ e. sym (quote_asked t (clock + d.reply) b.quote) ∙ e
phase_quote d clock None b q =
    cond_both b.halted _ _ (λ z. quote_of z ≡ Some q → b.quote ≡ Some q) (λ _ e. none_some q e) (λ _ e. sym (quote_lit b.quote) ∙ e)

abbrev Asks : Option ℕ → Board → Type 0
Asks asked b = (t : ℕ) → asked ≡ Some t → (q : Quote) × (b.quote ≡ Some q)

phase_none : (d : Day) (clock : ℕ) (asked : Option ℕ) (b : Board) → Asks asked b → is_asked (phase_by d clock asked b) ≡ false → asked ≡ None
phase_none d clock None b h e = refl
phase_none d clock (Some t) b h e =
    let q = h t refl in
    let z : is_asked (asked_by t (clock + d.reply) (Some q.0)) ≡ false = subst
    (λ x. is_asked (asked_by t (clock + d.reply) x) ≡ false) q.1 e in
    true_false true refl z

phase_quiet : (d : Day) (clock : ℕ) (asked : Option ℕ) (b : Board) → Asks asked b →
    (asked ≡ None → b.halted ≡ false → Quiet b.table.rows b.quote) →
    is_asked (phase_by d clock asked b) ≡ false → is_halted (phase_by d clock asked b) ≡ false → Quiet b.table.rows
    (quote_of (phase_by d clock asked b))
phase_quiet d clock None b h k =
    cond_both b.halted _ _ (λ z. is_asked z ≡ false → is_halted z ≡ false → Quiet b.table.rows (quote_of z))
    (λ _ _ e. true_false true refl e)
    (λ e _ _. subst (λ z. Quiet b.table.rows z) (sym (quote_lit b.quote)) (k refl e))
phase_quiet d clock (Some t) b h k = λ u v. none_some t (sym (phase_none d clock (Some t) b h u))

-- what slips leave of the orders is read from the slips alone
pub past_remaining : (slips : List Slip) (b : Board) → (past_all slips b).table.rows ≡ remaining slips b.table.rows
past_remaining [] b = refl
past_remaining (Trade price pieces buyer seller ∷ xs) b = past_remaining xs (past (Trade price pieces buyer seller) b)
past_remaining (Out cause ticket pieces ∷ xs) b = past_remaining xs (past (Out cause ticket pieces) b)

past_quote : (slips : List Slip) (b : Board) → (past_all slips b).quote ≡ quote_left slips b.quote
past_quote [] b = refl
past_quote (Trade price pieces buyer seller ∷ xs) b = past_quote xs (past (Trade price pieces buyer seller) b)
past_quote (Out cause ticket pieces ∷ xs) b = past_quote xs (past (Out cause ticket pieces) b)

phase_left : (d : Day) (clock : ℕ) (asked : Option ℕ) (b : Board) → (b.halted ≡ true → b.quote ≡ None) → quote_of
    (phase_by d clock asked b) ≡ b.quote
phase_left d clock (Some t) b h = quote_asked t (clock + d.reply) b.quote
phase_left d clock None b h = cond_both b.halted _ _ (λ z. quote_of z ≡ b.quote) (λ k. sym (h k)) (λ _. quote_lit b.quote)

past_stops : (slips : List Slip) (b : Board) → (past_all slips b).halted ≡ true → b.halted ≡ false → some_stops slips ≡ true
past_stops [] b h k = true_false b.halted h k
past_stops (Trade price pieces buyer seller ∷ xs) b h k = past_stops xs (past (Trade price pieces buyer seller) b) h k
past_stops (Out cause ticket pieces ∷ xs) b h k =
    go (halts cause) refl (λ e. past_stops xs (past (Out cause ticket pieces) b) h (or_from (halts cause) b.halted e k))
  where
    go : (v : Bool) → halts cause ≡ v → (halts cause ≡ false → some_stops xs ≡ true) → (v || some_stops xs) ≡ true
    go true e ih = refl
    go false e ih = ih e

phase_halted : (d : Day) (clock : ℕ) (asked : Option ℕ) (b : Board) (until : ℕ) → phase_by d clock asked b ≡ Halted until →
    (b.halted ≡ true) × (until ≡ clock + 120)
phase_halted d clock None b until =
    cond_both b.halted _ _ (λ z. z ≡ Halted until → (b.halted ≡ true) × (until ≡ clock + 120))
    (λ h e. (h, sym (cc)))
    (λ _ e. lit_halted b.quote e)
  where
    lit_halted : {B : Type 0} (o : Option Quote) → lit_by o ≡ Halted until → B
    lit_halted None e = true_false true refl (ap is_halted (sym e))
    lit_halted (Some q) e = true_false true refl (ap is_halted (sym e))
phase_halted d clock (Some t) b until = asked_halted b.quote
  where
    asked_halted : {B : Type 0} (o : Option Quote) → asked_by t (clock + d.reply) o ≡ Halted until → B
    asked_halted None e = true_false true refl (ap is_halted (sym e))
    asked_halted (Some q) e = true_false true refl (ap is_halted (sym e))

phase_asked : (d : Day) (clock : ℕ) (asked : Option ℕ) (b : Board) (q : Quote) (r : Rfe) → phase_by d clock asked b ≡ Asked q r →
    (asked ≡ Some r.opener) × (b.quote ≡ Some q) × (r.due ≡ clock + d.reply)
phase_asked d clock None b q r =
    cond_both b.halted _ _ (λ z. z ≡ Asked q r → (None ≡ Some r.opener) × (b.quote ≡ Some q) × (r.due ≡ clock + d.reply))
    (λ _ e. true_false true refl (ap is_asked (sym e)))
    (λ _ e. lit_asked b.quote e)
  where
    lit_asked : {B : Type 0} (o : Option Quote) → lit_by o ≡ Asked q r → B
    lit_asked None e = true_false true refl (ap is_asked (sym e))
    lit_asked (Some x) e = true_false true refl (ap is_asked (sym e))
phase_asked d clock (Some t) b q r = go b.quote
  where
    go : (o : Option Quote) → asked_by t (clock + d.reply) o ≡ Asked q r → (Some t ≡ Some r.opener) × (o ≡ Some q) ×
        (r.due ≡ clock + d.reply)
    go None e = true_false true refl (ap is_asked (sym e))
    go (Some x) e =
        let k : x ≡ q = cc in
        let m : record { opener = t; due = clock + d.reply } ≡ r = cc in
        (ap (λ z. Some z.opener) m, ap (λ z. Some z) k, ap (λ z. z.due) (sym m))

board_is : (b : Board) (q : Quote) → b.halted ≡ false → b.quote ≡ Some q → b ≡ board_of b.table.rows (Some q) false
board_is b q h k = λ i. board_of b.table.rows (k i) (h i)

-- what is known after a cross
pub record Crossing (d : Day) (test : ℕ → Bool) (s : State) (gov : Quote) (stands : Option Quote) (entered : Bool)
    (a : Acted) : Type 0 where
  pub count : a.state.count ≡ s.count
  pub totals : a.state.totals ≡ s.totals
  pub collected : a.state.collected ≡ s.collected
  pub clock : a.state.clock ≡ s.clock
  pub dynamic : a.state.dynamic ≡ s.dynamic
  pub lowered : (q : Quote) → quote_of a.state.phase ≡ Some q → LoweredQuote q gov
  pub good : Good test a.state.table.rows a.state.phase s.count
  pub ledger : Ledger s.table.rows a.slips a.state.table.rows
  pub balance : held_in s.table.rows ≡ sum_by done_on a.slips + sum_by out_on a.slips + held_in a.state.table.rows
  pub few : length a.slips ≤ standing s.table.rows + 1
  pub fit : length a.slips ≤ 129
  pub shrinks : Shrinks a.state.table.rows s.table.rows
  pub fair : FairSlips d.rank (frame_of d s gov entered) (board_of s.table.rows stands false) a.slips
  pub prices : AllByRecursion (TradePasses test) a.slips
  pub left : quote_of a.state.phase ≡ quote_left a.slips stands
  pub leaves : a.state.table.rows ≡ remaining a.slips s.table.rows
  pub asks : (q : Quote) (r : Rfe) → a.state.phase ≡ Asked q r →
      book.Asked d.rank (frame_of d s gov entered) (board_of a.state.table.rows (Some q) false) r.opener ×
      (r.due ≡ s.clock + d.reply)
  pub halts : (until : ℕ) → a.state.phase ≡ Halted until → (some_stops a.slips ≡ true) × (until ≡ a.state.clock + 120)
  pub quiet : is_asked a.state.phase ≡ false → is_halted a.state.phase ≡ false → Quiet a.state.table.rows
      (quote_of a.state.phase)

module _ (d : Day) (test : ℕ → Bool) (L : RankLaw d.rank) (s : State) (gov : Quote) (stands : Option Quote) (entered : Bool)
    (T : GoodRows test s.table.rows s.count) (Q : GoodQuote test s.table.rows s.count gov)
    (K : (q : Quote) → stands ≡ Some q → q ≡ gov) where
  abbrev rows : Rows
  rows = s.table.rows

  abbrev frame : Frame
  frame = frame_of d s gov entered

  abbrev board : Board
  board = board_of rows stands false

  sound : Sound frame board
  sound =
      record {
        rows = T.sound;
        quote = λ q e.
            let k = K q e in
            record {
              same_bid = ap (λ z. z.bid) k;
              same_ask = ap (λ z. z.ask) k;
              in_order = rw k Q.in_order;
              some_bid = rw k Q.some_bid;
              some_ask = rw k Q.some_ask;
              apart = λ i o a z. Q.apart i o a (z ∙ ap (λ v. v.number) k);
            };
        halted_dark = λ e. true_false true refl (sym e);
      }

  all_within : AllPrices test board
  all_within = record { orders = T.within; quote = λ q e side. rw (K q e) (sides side) }
    where
      sides : (side : Side) → test (side_of gov side).price ≡ true
      sides Buy = Q.bid_within
      sides Sell = Q.ask_within

  over : (r : Run) → CrossLaws d.rank frame board r → Crossing d test s gov stands entered
      (record { state = left_by d s r; slips = r.slips })
  over r E =
      let b = r.board in
      let asks : Asks r.asked b = λ t e. let x = E.course.asks t e in (x.quote, x.is_step.0) in
      let low : (i : ℕ) (o : Order) → At b.table.rows i o → o.ticket ≤ s.count =
      λ i o a. let x = E.shrinks i o a in omega (arith, T.low i x.0 x.1, x.2.ticket) in
      record {
        count = refl;
        totals = refl;
        collected = refl;
        clock = refl;
        dynamic = refl;
        lowered = λ q e.
            let k = E.keeps_quote q (phase_quote d s.clock r.asked b q e) in
            subst (λ z. LoweredQuote q z) (K k.0 k.1) k.2;
        good = record {
          table = record {
            size = ap (λ z. length z.table.rows) E.course.told ∙ past_length r.slips board ∙ T.size;
            sound = E.sound.rows;
            low = low;
            within = λ i o a. let x = E.shrinks i o a in rw x.2.price (T.within i x.0 x.1);
          };
          quote = λ q e.
              let h = phase_quote d s.clock r.asked b q e in
              let S = E.sound.quote q h in
              let k = E.keeps_quote q h in
              let m : k.0 ≡ gov = K k.0 k.1 in
              record {
                in_order = S.in_order;
                some_bid = S.some_bid;
                some_ask = S.some_ask;
                bid_within = rw S.same_bid Q.bid_within;
                ask_within = rw S.same_ask Q.ask_within;
                apart = S.apart;
                low = omega (arith, k.2.number, ap (λ z. z.number) m, Q.low);
              };
          brief = λ e i o a. E.course.spent (phase_none d s.clock r.asked b asks e) i o a;
        };
        ledger = E.ledger;
        balance = balance s.count rows b.table.rows r.slips T.sound.named E.sound.rows.named T.low low
            (outs_named d.rank frame board r.slips T.sound.named E.course.fair) E.ledger;
        few = omega (arith, E.few, one_quote stands);
        fit = E.fit;
        shrinks = E.shrinks;
        fair = E.course.fair;
        prices = E.prices test all_within;
        left = phase_left d s.clock r.asked b E.sound.halted_dark ∙ ap (λ z. z.quote) E.course.told ∙ past_quote
            r.slips board;
        leaves = ap (λ z. z.table.rows) E.course.told ∙ past_remaining r.slips board;
        asks = λ q x e.
            let h = phase_asked d s.clock r.asked b q x e in
            let A = E.course.asks x.opener h.0 in
            (subst (λ z. book.Asked d.rank frame z x.opener) (board_is b q A.running h.1) A, h.2);
        halts = λ until e.
            let h = phase_halted d s.clock r.asked b until e in
            (past_stops r.slips board (ap (λ z. z.halted) (sym E.course.told) ∙ h.0) refl, h.1);
        quiet = phase_quiet d s.clock r.asked b asks E.course.quiet;
      }

  pub crossing_keeps : Crossing d test s gov stands entered (crossing d s gov stands entered)
  unfolding crossing
  crossing_keeps = over (cross d.rank frame board) (every_cross d.rank L frame board sound)
