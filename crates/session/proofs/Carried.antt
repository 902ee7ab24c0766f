-- A call that was carried out: its slips are counted, and it is answered.
use Rattle.std.proofs.Common.{◌≡◌, ℕ, ◌≤◌, List, length, take, Ok, sym, ap, ◌∙◌, subst, arith, take_at}
use lib.Seq.{sets-eq}
use Rattle.book.specs.Cross.{written}
use Rattle.book.specs.declared.slip.Slip.{Slip}
use Rattle.session.specs.Acts.{Act, acted}
use Rattle.session.specs.Bounds.{Few, Low}
use Rattle.session.specs.Calls.{answer_of, done, tallied, with_totals}
use Rattle.session.specs.Days.{Day, State, Totals}
use Rattle.session.specs.Deeds.{Deed}
use Rattle.session.specs.Tells.{Tells}
use Rattle.session.specs.declared.answer.Answer.{Answer}
use Rattle.session.proofs.Keeps.{acted_totals}

-- what was written is read again
taken : (slips old : List Slip) (n : ℕ) → n ≡ length slips → length slips ≤ length old → take n (written slips old) ≡ slips
taken slips old n e h = ap (take n) (sets-eq slips old 0 (omega (arith, h))) ∙ take_at slips _ n (sym e)

pub low_after : (d : Day) (s : State) (act : Act) (s1 : State) (old new : List Slip) (n : ℕ) → Deed (acted d s act) s1 old new n →
    Low s.totals → Low s1.totals
low_after d s act s1 old new n h low = subst Low (sym (ap (λ z. z.totals) h.state ∙ acted_totals d s act)) low

module _ (d : Day) (s : State) (act : Act) (number : ℕ) (few : Few d s act) where
  pub carried : (s1 : State) (t : Totals) (old new : List Slip) (n : ℕ) (a : Answer) → 129 ≤ length old → Deed (acted d s act) s1 old new n →
      t ≡ tallied s1.totals (take n new) → a ≡ answer_of (with_totals s1 t) n number → Tells (done d s act number) (Ok a) (with_totals s1 t) old new
  unfolding done
  carried s1 t old new n a room h counted answered =
      let slips = (acted d s act).slips in
      let read : take n new ≡ slips = ap (take n) h.slips ∙ taken slips old n h.count (omega (arith, room, few)) in
      let totals : t ≡ tallied (acted d s act).state.totals slips = counted ∙ (λ i. tallied (h.state i).totals (read i)) in
      let state : with_totals s1 t ≡ with_totals (acted d s act).state (tallied (acted d s act).state.totals slips) = λ i. with_totals (h.state i) (totals i) in
      record {
        result = ap Ok (answered ∙ (λ i. answer_of (state i) (h.count i) number));
        state = state;
        slips = h.slips;
      }
