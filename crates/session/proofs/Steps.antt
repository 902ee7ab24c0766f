-- One call of a story: what it keeps, what it accounts for, and that its slips are fair.
use Rattle.std.proofs.Common.{◌≡◌, ℕ, ◌+◌, ◌*◌, ◌<◌, ◌≤◌, Bool, true, false, cond, not, ◌&&◌, eqb, ◌≢◌, ◌⊎◌, List, [], ◌∷◌, ◌++◌, length, Some, Ok, sum_by, Option, sym, refl, ap, ◌∙◌, subst, inl, inr, ⊎_elim, arith}
use Rattle.std.specs.List.{AllByRecursion}
use Rattle.std.proofs.ByRecursion.{All-append}
use Rattle.std.proofs.lemmas.List.Sums.{sum_by-append}
use Rattle.std.proofs.lemmas.Bool.{or_from, or_parts, or_right}
use Rattle.book.specs.Asked as book
use Rattle.book.specs.FairSlips.{FairSlips}
use Rattle.book.specs.Ledger.{out_by, traded_by}
use Rattle.book.specs.Lowered.{Lowered, LoweredQuote}
use Rattle.book.specs.Makes.{board_of}
use Rattle.book.specs.Prices.{TradePasses}
use Rattle.book.specs.Quiet.{Quiet}
use Rattle.book.specs.Tables.{At, Rows, left, standing}
use Rattle.book.specs.declared.order.Order.{Order}
use Rattle.book.specs.declared.quote.Quote.{Quote}
use Rattle.book.specs.declared.slip.Slip.{Slip}
use Rattle.book.proofs.Bests.{none_some, true_false}
use Rattle.book.proofs.RowChanges.{Shrunk, lowered_chain, shrinks_by}
use Rattle.session.specs.Calls.{Outcome, answer_of, collecting, done_on, out_on, refused, summons_of, tallied, with_totals}
use Rattle.session.specs.Days.{Day, State}
use Rattle.session.specs.Phases.{Phase, Dark, Lit, Asked, Halted, Rfe, is_asked, is_halted, kind_of, quote_of}
use Rattle.session.specs.Runs.{Acted, frame_of}
use Rattle.session.specs.Stories.{Call, Enter, Cancel, Quoting, Withdraw, Collect, Validate, Decline, Clock, Renew, Reply, Refused, Answered, Handed, Yield, keeping}
use Rattle.session.specs.Closing.{held_in}
use Rattle.session.specs.StoryCounts.{WasEntered, WasEntry, accepted_as, accepted_in, by_entered, by_numbered, counts, number_by}
use Rattle.session.specs.StoryFair.{FairAnswer, FairReply}
use Rattle.session.specs.StoryLaws.{Numbered, Replies}
use Rattle.session.specs.StoryPhases.{AsksBy, HaltsBy, LeavesReply, Opens, QuoteTold, QuotesBy, ToldBy, begun, governs, quote_left, remaining, some_stops, stops}
use Rattle.session.specs.StoryRfes.{Ends, RfeBy}
use Rattle.session.specs.StoryStretch.{is_halt, is_quote, stretched}
use Rattle.session.specs.StorySummonses.{spent_in}
use Rattle.session.specs.StoryTimes.{Sets, SetsReply, Timely}
use Rattle.session.specs.declared.answer.Answer.{Answer}
use Rattle.session.specs.declared.entry.Entry.{Entry}
use Rattle.session.specs.declared.fault.SessionFault.{SessionFault}
use Rattle.session.proofs.CrossSteps.{Crossing}
use Rattle.session.proofs.Goods.{Good, quiet_less, quote_less, table_less}

abbrev pub Quieted : Bool → State → Type 0
Quieted was s = is_asked s.phase ≡ false → was ≡ false → Quiet s.table.rows (quote_of s.phase)

abbrev pub Spared : Reply → List Slip → Type 0
Spared (Refused fault) slips = slips ≡ []
Spared (Answered a) slips = Unit {0}
Spared (Handed summons) slips = Unit {0}

-- what a call does to the summons
abbrev pub Hands : Call → State → ℕ → Yield → Reply → Type 0
Hands c s held y (Refused fault) = (y.summons ≡ held) × (y.state.collected ≡ s.collected)
Hands c s held y (Answered a) = (y.summons ≡ spent_in c held) × (y.state.collected ≡ s.collected)
Hands c s held y (Handed n) = (y.summons ≡ n) × (n ≡ summons_of s) × (y.state ≡ collecting s)

-- where a quote stands, no stretch since a halt is on
abbrev pub Cleared : Bool → Phase → Type 0
Cleared was ph = (q : Quote) → quote_of ph ≡ Some q → was ≡ false

pub lit_runs : (ph : Phase) (q : Quote) → quote_of ph ≡ Some q → is_halt (kind_of ph) ≡ false
lit_runs Dark q e = refl
lit_runs (Lit x) q e = refl
lit_runs (Asked x r) q e = refl
lit_runs (Halted until) q e = none_some q e

-- an order stood before
abbrev pub Stood : Rows → ℕ → Order → Type 0
Stood rows i o = (was : Order) × (At rows i was) × Lowered o was

pub record Step (d : Day) (test : ℕ → Bool) (s : State) (c : Call) (was : Bool) (places held : ℕ) (y : Yield) : Type 0 where
  pub told : counts y.reply ≡ length y.slips
  pub few : length y.slips ≤ 129
  pub room : length y.slips ≤ places
  pub replies : Replies c y.reply s y.state s.count
  pub spares : Spared y.reply y.slips
  pub hands : Hands c s held y y.reply
  pub quotes : QuotesBy c y.reply s y.state
  pub clear : Cleared was s.phase → Cleared (stretched c y.reply was) y.state.phase
  pub grows : y.state.count ≡ s.count + by_numbered (λ _. 1) c y.reply
  pub names : number_by c y.reply ≢ 0 → (s.count < number_by c y.reply) × (number_by c y.reply ≤ y.state.count)
  pub good : Good test y.state.table.rows y.state.phase y.state.count
  pub ledger : (t : ℕ) → t ≢ 0 → accepted_as t c y.reply + left t s.table.rows ≡ sum_by (traded_by t) y.slips + sum_by
      (out_by t) y.slips + left t y.state.table.rows
  pub enters : (i : ℕ) (o : Order) → At y.state.table.rows i o → WasEntered o c y.reply ⊎ Stood s.table.rows i o
  pub fair : FairReply d s c y.reply y.slips
  pub prices : AllByRecursion (TradePasses test) y.slips
  pub leaves : LeavesReply c y.reply s.table.rows y.slips y.state.table.rows
  pub asks : AsksBy d c s y.state
  pub halts : HaltsBy s y.state y.slips
  pub quote_told : ToldBy c y.reply s y.state y.slips
  pub rfe : RfeBy c s y.state held y.slips
  pub sets : SetsReply c y.reply s y.state
  pub timely : Timely d.reply s → Timely d.reply y.state
  pub quiet : Quieted was s → Quieted (stretched c y.reply was) y.state
  pub accepted : y.state.totals.accepted ≡ s.totals.accepted + accepted_in c y.reply
  pub done : y.state.totals.done ≡ s.totals.done + sum_by done_on y.slips
  pub out : y.state.totals.out ≡ s.totals.out + sum_by out_on y.slips
  pub balance : accepted_in c y.reply + held_in s.table.rows ≡ sum_by done_on y.slips + sum_by out_on y.slips + held_in
      y.state.table.rows
  pub most : accepted_in c y.reply ≤ 10000000 * by_numbered (λ _. 1) c y.reply
  pub numbers : s.count ≤ 1000000 → y.state.count ≤ 1000000

-- ---- how a call's answers are read
pub record Reads (c : Call) (s : State) (number gives pieces : ℕ) (gain : ℕ → ℕ) : Type 0 where
  pub given : (p : State) (n : ℕ) → by_numbered (λ _. 1) c (Answered (answer_of p n number)) ≡ gives
  pub names : (p : State) (n : ℕ) → number_by c (Answered (answer_of p n number)) ≢ 0 →
      (s.count < number_by c (Answered (answer_of p n number))) × (number_by c (Answered (answer_of p n number)) ≤ s.count + gives)
  pub numbered : (p : State) (n : ℕ) → Numbered c (answer_of p n number) s s.count
  pub gained : (p : State) (n t : ℕ) → accepted_as t c (Answered (answer_of p n number)) ≡ gain t
  pub taken : (p : State) (n : ℕ) → accepted_in c (Answered (answer_of p n number)) ≡ pieces
  pub most : pieces ≤ 10000000 * gives

-- an order with fewer pieces was entered all the same
entry_lowered : (o was : Order) (e : Entry) (a : Answer) → Lowered o was → WasEntry was e a → WasEntry o e a
entry_lowered o was e a l w =
    record {
      ticket = l.ticket ∙ w.ticket;
      sender = l.sender ∙ w.sender;
      side = l.side ∙ w.side;
      price = l.price ∙ w.price;
      brief = l.brief ∙ w.brief;
      pieces = omega (arith, l.pieces, w.pieces);
    }

pub entered_lowered : (o was : Order) (c : Call) (r : Reply) → Lowered o was → WasEntered was c r → WasEntered o c r
entered_lowered o was (Enter e) (Refused fault) l w = w
entered_lowered o was (Enter e) (Answered a) l w = entry_lowered o was e a l w
entered_lowered o was (Enter e) (Handed summons) l w = w
entered_lowered o was (Cancel sender ticket) r l w = w
entered_lowered o was (Quoting q flagged) r l w = w
entered_lowered o was Withdraw r l w = w
entered_lowered o was Collect r l w = w
entered_lowered o was (Validate q flagged) r l w = w
entered_lowered o was Decline r l w = w
entered_lowered o was (Clock seconds) r l w = w
entered_lowered o was Renew r l w = w

halt_kind : (p : Phase) → is_halt (kind_of p) ≡ is_halted p
halt_kind Dark = refl
halt_kind (Lit q) = refl
halt_kind (Asked q r) = refl
halt_kind (Halted until) = refl

-- ---- a refusal
refused_enters : (tells : Entry → Answer → ℕ) (c : Call) (f : SessionFault) → by_entered tells c (Refused f) ≡ 0
refused_enters tells (Enter e) f = refl
refused_enters tells (Cancel sender ticket) f = refl
refused_enters tells (Quoting q flagged) f = refl
refused_enters tells Withdraw f = refl
refused_enters tells Collect f = refl
refused_enters tells (Validate q flagged) f = refl
refused_enters tells Decline f = refl
refused_enters tells (Clock seconds) f = refl
refused_enters tells Renew f = refl

refused_numbers : (tells : Answer → ℕ) (c : Call) (f : SessionFault) → by_numbered tells c (Refused f) ≡ 0
refused_numbers tells (Enter e) f = refl
refused_numbers tells (Cancel sender ticket) f = refl
refused_numbers tells (Quoting q flagged) f = refl
refused_numbers tells Withdraw f = refl
refused_numbers tells Collect f = refl
refused_numbers tells (Validate q flagged) f = refl
refused_numbers tells Decline f = refl
refused_numbers tells (Clock seconds) f = refl
refused_numbers tells Renew f = refl

pub lowered_quote_self : (q : Quote) → LoweredQuote q q
lowered_quote_self q = record { number = refl; bid = refl; ask = refl; flagged = refl; bid_pieces = omega arith; ask_pieces = omega arith }

pub lowered_self : (o : Order) → Lowered o o
lowered_self o = record { ticket = refl; sender = refl; side = refl; price = refl; brief = refl; pieces = omega arith }

not_asked_lem : (ph : Phase) → ((q : Quote) (r : Rfe) → ph ≡ Asked q r → ⊥) → is_asked ph ≡ false
not_asked_lem Dark h = refl
not_asked_lem (Lit q) h = refl
not_asked_lem (Asked q r) h = absurd (h q r refl)
not_asked_lem (Halted until) h = refl

stops_after : (pre ss : List Slip) → some_stops ss ≡ true → some_stops (pre ++ ss) ≡ true
stops_after [] ss h = h
stops_after (x ∷ xs) ss h = or_right (stops x) (some_stops (xs ++ ss)) (stops_after xs ss h)

abbrev answering : State → List Slip → ℕ → Yield
answering after slips kept = record { reply = Answered (answer_of after (length slips) 0); state = after; slips = slips; summons = kept }

-- what a call that was carried out comes to
abbrev pub finished : Acted → ℕ → Outcome
finished a number =
    let after = with_totals a.state (tallied a.state.totals a.slips) in
    record { result = Ok (answer_of after (length a.slips) number); state = after; slips = a.slips }

abbrev after_pre : List Slip → Acted → Acted
after_pre pre a = record { state = a.state; slips = pre ++ a.slips }

module _ (d : Day) (test : ℕ → Bool) (s : State) (G : Good test s.table.rows s.phase s.count) (c : Call) (was : Bool)
    (places held : ℕ) where
  pub refusing : (f : SessionFault) → Step d test s c was places held (keeping held (refused s f))
  refusing f =
      record {
        told = refl;
        few = omega arith;
        room = omega arith;
        replies = refl;
        spares = refl;
        hands = (refl, refl);
        quotes = refl;
        clear = λ h. h;
        grows = omega (arith, refused_numbers (λ _. 1) c f);
        names = λ z. absurd (z (refused_numbers (λ a. a.number) c f));
        good = G;
        ledger = λ t z. omega (arith, refused_enters (λ e a. cond (eqb a.number t) e.pieces 0) c f);
        enters = λ i o a. inr (o, a, lowered_self o);
        fair = refl;
        prices = tt;
        leaves = refl;
        asks = λ q r e. inl e;
        halts = λ until e. inl e;
        quote_told = refl;
        rfe = λ q r e. inl (e, omega arith);
        sets = refl;
        timely = λ h. h;
        quiet = λ h. h;
        accepted = omega (arith, refused_enters (λ e a. e.pieces) c f);
        done = omega arith;
        out = omega arith;
        balance = omega (arith, refused_enters (λ e a. e.pieces) c f);
        most = omega (arith, refused_enters (λ e a. e.pieces) c f);
        numbers = λ h. h;
      }

  -- ---- no cross: the table loses at most one order, the quote stays or goes
  pub calm : Reads c s 0 0 0 (λ _. 0) → (after : State) (slips : List Slip) (kept : ℕ) →
      after.count ≡ s.count → after.totals.accepted ≡ s.totals.accepted →
      after.totals.done ≡ s.totals.done + sum_by done_on slips → after.totals.out ≡ s.totals.out + sum_by out_on slips →
      length slips ≤ 129 → length slips ≤ places →
      Shrunk after.table.rows s.table.rows → standing after.table.rows ≤ standing s.table.rows → length
      after.table.rows ≡ length s.table.rows →
      ((q : Quote) → quote_of after.phase ≡ Some q → quote_of s.phase ≡ Some q) →
      (is_asked after.phase ≡ false → is_asked s.phase ≡ false) → is_quote c ≡ false →
      ((t : ℕ) → left t s.table.rows ≡ sum_by (traded_by t) slips + sum_by (out_by t) slips + left t after.table.rows) →
      held_in s.table.rows ≡ sum_by done_on slips + sum_by out_on slips + held_in after.table.rows →
      FairAnswer d s c (answer_of after (length slips) 0) slips → AllByRecursion (TradePasses test) slips →
      after.table.rows ≡ remaining slips (begun c (answer_of after (length slips) 0) s.table.rows) →
      ((q : Quote) (r : Rfe) → after.phase ≡ Asked q r → s.phase ≡ Asked q r) →
      ((until : ℕ) → after.phase ≡ Halted until → s.phase ≡ Halted until) →
      kept ≡ spent_in c held → after.collected ≡ s.collected → ((p : State) (n : ℕ) → governs c (answer_of p n 0) s ≡ quote_of s.phase) →
      Sets c s after → (Timely d.reply s → Timely d.reply after) → RfeBy c s after held slips →
      QuoteTold c (answer_of after (length slips) 0) s after.phase slips →
      Step d test s c was places held (answering after slips kept)
  calm R after slips kept ec ta td to few room sh st el kq ha nq cnt bal fair pr lv as' hs kp co gv se ti rf qt =
      let n = length slips in
      record {
        told = refl;
        few = few;
        room = room;
        replies = (record { phase = refl; dynamic = refl; opener = refl }, R.numbered after n);
        spares = tt;
        hands = (kp, co);
        quotes = λ q e. (q, gv after n ∙ kq q e, lowered_quote_self q);
        clear = λ h q e. or_from _ _ (lit_runs after.phase q e) (rw nq (h q (kq q e)));
        grows = omega (arith, ec, R.given after n);
        names = λ z. let h = R.names after n z in (h.0, omega (arith, h.1, ec));
        good = record {
          table = rw ec (table_less test after.table.rows s.table.rows s.count sh st el G.table);
          quote = λ q e. rw ec (quote_less test after.table.rows s.table.rows s.count q (shrinks_by _ _ sh)
              (G.quote q (kq q e)));
          brief = λ e i o a. let x = sh i o a in x.2.lowered.brief ∙ G.brief (ha e) i x.0 x.1;
        };
        ledger = λ t z. omega (arith, R.gained after n t, cnt t);
        enters = λ i o a. inr (shrinks_by _ _ sh i o a);
        fair = fair;
        prices = pr;
        leaves = lv;
        asks = λ q r e. inl (as' q r e);
        halts = λ until e. inl (hs until e);
        quote_told = qt;
        rfe = rf;
        sets = se;
        timely = ti;
        quiet = λ h u v.
            let w = quiet_less after.table.rows s.table.rows (quote_of s.phase) (shrinks_by _ _ sh) (h (ha u) (still v)) in
            record { apart = w.apart; unreached = λ q i o e a. w.unreached q i o (kq q e) a };
        accepted = omega (arith, ta, R.taken after n);
        done = td;
        out = to;
        balance = omega (arith, bal, R.taken after n);
        most = omega (arith, R.taken after n);
        numbers = λ h. omega (arith, h, ec);
      }
    where
      still : stretched c (Answered (answer_of after (length slips) 0)) was ≡ false → was ≡ false
      still v = let z = (or_parts (is_halt (kind_of after.phase)) (not (is_quote c) && was) v).1 in rw nq at z

  -- ---- a cross, perhaps after a first slip
  pub crossed : (s1 : State) (gov : Quote) (stands : Option Quote) (entered : Bool) (a : Acted) → Crossing d test s1 gov stands entered a →
      (number gives pieces : ℕ) (gain : ℕ → ℕ) → Reads c s number gives pieces gain → (pre : List Slip) (kept : ℕ) →
      s1.count ≡ s.count + gives → s1.totals.accepted ≡ s.totals.accepted + pieces → s1.totals.done ≡ s.totals.done →
      s1.totals.out ≡ s.totals.out →
      (s.count ≤ 1000000 → s1.count ≤ 1000000) → length (pre ++ a.slips) ≤ 129 → 129 ≤ places →
      ((t : ℕ) → t ≢ 0 → gain t + left t s.table.rows ≡ sum_by (traded_by t) pre + sum_by (out_by t) pre + left t s1.table.rows) →
      pieces + held_in s.table.rows ≡ sum_by done_on pre + sum_by out_on pre + held_in s1.table.rows →
      ((i : ℕ) (o : Order) → At s1.table.rows i o → ((p : State) (n : ℕ) → WasEntered o c
      (Answered (answer_of p n number))) ⊎ Stood s.table.rows i o) →
      ((p : State) (n : ℕ) (ss : List Slip) → FairSlips d.rank (frame_of d s1 gov entered)
      (board_of s1.table.rows stands false) ss → FairAnswer d s c (answer_of p n number) (pre ++ ss)) →
      AllByRecursion (TradePasses test) pre →
      ((p : State) (n : ℕ) (ss : List Slip) → remaining ss s1.table.rows ≡ remaining (pre ++ ss)
      (begun c (answer_of p n number) s.table.rows)) →
      ((s' : State) (q : Quote) (r : Rfe) → book.Asked d.rank (frame_of d s1 gov entered)
      (board_of s'.table.rows (Some q) false) r.opener → r.due ≡ s1.clock + d.reply → LoweredQuote q gov →
      Opens d c s s' q r) →
      kept ≡ spent_in c held → s1.collected ≡ s.collected → ((p : State) (n : ℕ) → governs c (answer_of p n number) s ≡ Some gov) →
      (Cleared was s.phase → (not (is_quote c) && was) ≡ false) →
      Sets c s s1 → ((q : Quote) (r : Rfe) → s.phase ≡ Asked q r → Ends c s held q r) → (is_asked s.phase ≡ true → entered ≡ false) →
      ((p : State) (n : ℕ) (ss : List Slip) (ph : Phase) → quote_of ph ≡ quote_left ss stands → QuoteTold c
      (answer_of p n number) s ph (pre ++ ss)) →
      Step d test s c was places held (keeping kept (finished (after_pre pre a) number))
  crossed s1 gov stands entered a C number gives pieces gain R pre kept ec ta td to nums few room cnt bal en fair pr bg op kp co gv cl se ends na qt =
      let n = length (pre ++ a.slips) in
      let p = with_totals a.state (tallied a.state.totals (pre ++ a.slips)) in
      record {
        told = refl;
        few = few;
        room = omega (arith, few, room);
        replies = (record { phase = refl; dynamic = refl; opener = refl }, R.numbered p n);
        spares = tt;
        hands = (kp, C.collected ∙ co);
        quotes = λ q e. (gov, gv p n, C.lowered q e);
        clear = λ h q e. or_from _ _ (lit_runs a.state.phase q e) (cl h);
        grows = omega (arith, C.count, ec, R.given p n);
        names = λ z. let h = R.names p n z in (h.0, omega (arith, h.1, C.count, ec));
        good = subst (λ z. Good test a.state.table.rows a.state.phase z) (sym C.count) C.good;
        ledger = λ t z.
            omega (
              arith,
              R.gained p n t,
              cnt t z,
              C.ledger t z,
              sum_by-append (traded_by t) pre a.slips,
              sum_by-append
                  (out_by t) pre a.slips,
            );
        enters = λ i o at.
            let x = C.shrinks i o at in
            ⊎_elim (λ h. inl (entered_lowered o x.0 c (Answered (answer_of p n number)) x.2 (h p n)))
            (λ (h : Stood s.table.rows i x.0). inr (h.0, h.1, lowered_chain o x.0 h.0 x.2 h.2)) (en i x.0 x.1);
        fair = fair p n a.slips C.fair;
        prices = All-append (TradePasses test) pre a.slips pr C.prices;
        leaves = C.leaves ∙ bg p n a.slips;
        asks = λ q r e. let h = C.asks q r e in inr (op p q r h.0 h.1 (C.lowered q (ap quote_of e)));
        halts = λ until e. let h = C.halts until e in inr (stops_after pre a.slips h.0, h.1);
        quote_told = qt p n a.slips a.state.phase C.left;
        rfe = λ q r e.
            inr (not_asked_lem a.state.phase (λ x z h. true_false entered (C.asks x z h).0.entered (na (ap is_asked e))), ends q r e);
        sets = record { clock = C.clock ∙ se.clock; dynamic = C.dynamic ∙ se.dynamic };
        timely = λ _. record {
          asked = λ some q r e. omega (arith, (C.asks q r e).1, C.clock, some);
          halted = λ until e. omega (arith, (C.halts until e).1);
        };
        quiet = λ _ u v. C.quiet u (sym (halt_kind a.state.phase) ∙ (or_parts (is_halt (kind_of a.state.phase))
            (not (is_quote c) && was) v).0);
        accepted = omega (arith, ap (λ z. z.accepted) C.totals, ta, R.taken p n);
        done = omega (arith, ap (λ z. z.done) C.totals, td);
        out = omega (arith, ap (λ z. z.out) C.totals, to);
        balance = omega (arith, R.taken p n, bal, C.balance, sum_by-append done_on pre a.slips, sum_by-append out_on pre a.slips);
        most = omega (arith, R.taken p n, R.given p n, R.most);
        numbers = λ h. omega (arith, nums h, C.count);
      }
