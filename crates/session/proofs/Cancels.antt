-- A cancel in an RFE: the order goes out, and what follows is written behind its slip.
use Rattle.std.proofs.Common.{◌≡◌, ℕ, ◌+◌, ◌-◌, ◌≤◌, true, false, cond, List, length, take, drop, Some, sym, subst, arith}
use borrow.Rule.Slice.PartMut.{put_mid}
use Rattle.book.specs.Firsts.{is_reached}
use Rattle.book.specs.Makes.{gone}
use Rattle.book.specs.declared.found.Found.{Found}
use Rattle.book.specs.declared.quote.Quote.{Quote}
use Rattle.book.specs.declared.slip.Cause.TheVariants.{Cancelled}
use Rattle.book.specs.declared.slip.Slip.{Slip}
use Rattle.session.specs.Acts.{Act, Cancel, acted, cancelling, first, freeing, still}
use Rattle.session.specs.Days.{Day, State}
use Rattle.session.specs.Deeds.{Deed}
use Rattle.session.specs.Phases.{Asked, Rfe}
use Rattle.session.specs.Runs.{Acted, crossing}
use Rattle.session.proofs.Counts.{crossing_few}
use Rattle.session.proofs.Lists.{first_then}

-- what is left to do where an RFE may be over
abbrev pub unreached : Day → State → Quote → Acted
unreached d s q = cond (is_reached q s.table.rows) (still s) (crossing d s q (Some q) false)

pub unreached_few : (d : Day) (s : State) (q : Quote) → length (unreached d s q).slips ≤ 129
unreached_few d s q =
    elim (is_reached q s.table.rows) as (λ v. length (cond v (still s) (crossing d s q (Some q) false)).slips ≤ 129) [
      | true ↦ omega arith
      | false ↦ crossing_few d s q (Some q) false
    ]

then_deed : (x : Slip) (free : State) (a : Acted) (s1 s2 : State) (old mid part : List Slip) (n1 n2 : ℕ) → 1 ≤ length old →
    Deed (first x (still free)) s1 old mid n1 → Deed a s2 (take (length mid - 1) (drop 1 mid)) part n2 →
    Deed (first x a) s2 old (put_mid 1 (length mid - 1) mid part) (n1 + n2)
then_deed x free a s1 s2 old mid part n1 n2 some h k =
    record {
      state = k.state;
      slips = first_then x a.slips old mid part some h.slips k.slips;
      count = omega (arith, h.count, k.count);
    }

pub cancel_asked : (d : Day) (s : State) (f : Found) (q : Quote) (r : Rfe) (act : Act) → s.phase ≡ Asked q r → act ≡ Cancel f →
    (s1 s2 : State) (old mid part : List Slip) (n1 n2 : ℕ) → 1 ≤ length old →
    Deed (first (gone Cancelled f) (still (freeing s f))) s1 old mid n1 → Deed (unreached d s1 q) s2 (take (length mid - 1) (drop 1 mid)) part n2 →
    Deed (acted d s act) s2 old (put_mid 1 (length mid - 1) mid part) (n1 + n2)
cancel_asked d s f q r act asked is s1 s2 old mid part n1 n2 some h k =
    let list = put_mid 1 (length mid - 1) mid part in
    let j = subst (λ z. Deed (unreached d z q) s2 (take (length mid - 1) (drop 1 mid)) part n2) h.state k in
    subst (λ z. Deed (acted d s z) s2 old list (n1 + n2)) (sym is)
    (subst (λ z. Deed (first (gone Cancelled f) (cancelling d (freeing s f) z)) s2 old list (n1 + n2)) (sym asked)
    (then_deed (gone Cancelled f) (freeing s f) (unreached d (freeing s f) q) s1 s2 old mid part n1 n2 some h j))
