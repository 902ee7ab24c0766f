-- What every ticket keeps, all tickets together keep.
use Rattle.std.proofs.Common.{◌≡◌, ℕ, zero, suc, ◌+◌, ◌<◌, ◌≤◌, cond, eqb, ◌≢◌, List, [], ◌∷◌, map, length, Some, None, sum_by, Option, sym, refl, ap, ◌∙◌, subst, ⊎_elim, arith}
use Rattle.std.specs.List.{AllByRecursion}
use Rattle.std.proofs.lemmas.List.{length-map}
use Rattle.std.proofs.lemmas.List.Sums.{sum_by-cons}
use Rattle.std.proofs.lemmas.Bool.{cases_eq, cond_both, cond-false, cond-true, eq-eqb, ne_eqb}
use Rattle.book.specs.Boards.{Board}
use Rattle.book.specs.FairSlips.{FairSlips}
use Rattle.book.specs.Ledger.{Ledger, out_by, traded_by}
use Rattle.book.specs.Moments.{fewer, past, past_all, without}
use Rattle.book.specs.Ranks.{Rank}
use Rattle.book.specs.Tables.{At, Rows, left, worth}
use Rattle.book.specs.declared.frame.Frame.{Frame}
use Rattle.book.specs.declared.order.Order.{Order}
use Rattle.book.specs.declared.slip.Slip.{Slip}
use Rattle.book.specs.declared.slip.Slip.TheVariants.{Trade, Out}
use Rattle.book.proofs.Bests.{none_some}
use Rattle.book.proofs.RowChanges.{lower_follows}
use Rattle.session.specs.Calls.{done_on, out_on}
use Rattle.session.specs.Closing.{held_in, pieces_in}

-- ---- the sum over the tickets 1 to n
spread : (ℕ → ℕ) → ℕ → ℕ
spread f zero = 0
spread f (suc n) = spread f n + f (suc n)

spread_same : (f g : ℕ → ℕ) → ((t : ℕ) → t ≢ 0 → f t ≡ g t) → (n : ℕ) → spread f n ≡ spread g n
unfolding spread
spread_same f g h zero = refl
spread_same f g h (suc n) = omega (arith, spread_same f g h n, h (suc n) (λ e. omega (arith, e)))

spread_add : (f g : ℕ → ℕ) (n : ℕ) → spread (λ t. f t + g t) n ≡ spread f n + spread g n
unfolding spread
spread_add f g zero = refl
spread_add f g (suc n) = omega (arith, spread_add f g n)

spread_none : (n : ℕ) → spread (λ _. 0) n ≡ 0
unfolding spread
spread_none zero = refl
spread_none (suc n) = omega (arith, spread_none n)

spread_miss : (x k n : ℕ) → n < x → spread (λ t. cond (eqb x t) k 0) n ≡ 0
unfolding spread
spread_miss x k zero h = refl
spread_miss x k (suc n) h =
    omega (arith, spread_miss x k n (omega arith), cond-false (eqb x (suc n)) k 0 (ne_eqb x (suc n) (λ e. omega (arith, e))))

spread_hit : (x k n : ℕ) → x ≢ 0 → x ≤ n → spread (λ t. cond (eqb x t) k 0) n ≡ k
unfolding spread
spread_hit x k zero z h = absurd (z (omega arith))
spread_hit x k (suc n) z h =
    ⊎_elim
    (λ (e : x ≡ suc n). omega (arith, spread_miss x k n (omega (arith, e)), cond-true (eqb x (suc n)) k 0 (eq-eqb x (suc n) e)))
    (λ (e : x ≢ suc n).
    let l : x ≤ n = le_but x n h e in
    omega (arith, spread_hit x k n z l, cond-false (eqb x (suc n)) k 0 (ne_eqb x (suc n) e)))
    (cases_eq x (suc n))
  where
    le_but : (x n : ℕ) → x ≤ suc n → x ≢ suc n → x ≤ n
    le_but x n h e = ⊎_elim (λ (k : x ≡ suc n). absurd (e k)) (λ (k : x ≢ suc n). omega (arith, k)) (cases_eq x (suc n))

spread_zero : (k n : ℕ) → spread (λ t. cond (eqb 0 t) k 0) n ≡ 0
unfolding spread
spread_zero k zero = refl
spread_zero k (suc n) = omega (arith, spread_zero k n, cond-false (eqb 0 (suc n)) k 0 (ne_eqb 0 (suc n) (λ e. omega (arith, e))))

spread_list : {X : Type 0} (g : ℕ → X → ℕ) (h : X → ℕ) (n : ℕ) (xs : List X) → AllByRecursion (λ x. spread (λ t. g t x) n ≡ h x) xs → spread
    (λ t. sum_by (g t) xs) n ≡ sum_by h xs
spread_list g h n [] a = spread_none n
spread_list g h n (x ∷ xs) a =
    spread_same (λ t. sum_by (g t) (x ∷ xs)) (λ t. g t x + sum_by (g t) xs) (λ t _. sum_by-cons (g t) x xs) n
    ∙ spread_add (λ t. g t x) (λ t. sum_by (g t) xs) n
    ∙ omega (arith, a.0, spread_list g h n xs a.1, sum_by-cons h x xs)

-- ---- slips and rows
abbrev tickets_on : Slip → ℕ
tickets_on (Trade price pieces buyer seller) = buyer + seller
tickets_on (Out cause ticket pieces) = ticket

abbrev pub OutNamed : Slip → Type 0
OutNamed (Trade price pieces buyer seller) = Unit {0}
OutNamed (Out cause ticket pieces) = ticket ≢ 0

party_spread : (x k n : ℕ) → x ≤ n → spread (λ t. cond (eqb x t) k 0) n ≡ cond (eqb x 0) 0 k
party_spread x k n h =
    ⊎_elim (λ (e : x ≡ 0). subst (λ v. spread (λ t. cond (eqb v t) k 0) n ≡ cond (eqb v 0) 0 k) (sym e) (spread_zero k n))
    (λ (e : x ≢ 0). spread_hit x k n e h ∙ sym (cond-false (eqb x 0) 0 k (ne_eqb x 0 e))) (cases_eq x 0)

trade_spread : (n : ℕ) (x : Slip) → tickets_on x ≤ n → spread (λ t. traded_by t x) n ≡ done_on x
trade_spread n (Trade price pieces buyer seller) h =
    spread_add (λ t. cond (eqb buyer t) pieces 0) (λ t. cond (eqb seller t) pieces 0) n
    ∙ omega (arith, party_spread buyer pieces n (omega arith), party_spread seller pieces n (omega arith))
trade_spread n (Out cause ticket pieces) h = spread_none n

out_spread : (n : ℕ) (x : Slip) → tickets_on x ≤ n → OutNamed x → spread (λ t. out_by t x) n ≡ out_on x
out_spread n (Trade price pieces buyer seller) h z = spread_none n
out_spread n (Out cause ticket pieces) h z = spread_hit ticket pieces n z h

below : (n : ℕ) (xs : List Slip) → sum_by tickets_on xs ≤ n → AllByRecursion (λ x. tickets_on x ≤ n) xs
below n [] h = tt
below n (x ∷ xs) h = (omega (arith, sum_by-cons tickets_on x xs), below n xs (omega (arith, sum_by-cons tickets_on x xs)))

trades_spread : (n : ℕ) (xs : List Slip) → AllByRecursion (λ x. tickets_on x ≤ n) xs → AllByRecursion (λ x. spread (λ t. traded_by t x) n ≡ done_on x) xs
trades_spread n [] a = tt
trades_spread n (x ∷ xs) a = (trade_spread n x a.0, trades_spread n xs a.1)

outs_spread : (n : ℕ) (xs : List Slip) → AllByRecursion (λ x. tickets_on x ≤ n) xs → AllByRecursion OutNamed xs → AllByRecursion (λ x. spread (λ t. out_by t x) n ≡ out_on x) xs
outs_spread n [] a z = tt
outs_spread n (x ∷ xs) a z = (out_spread n x a.0 z.0, outs_spread n xs a.1 z.1)

abbrev pub Named : Rows → Type 0
Named rows = (i : ℕ) (o : Order) → At rows i o → o.ticket ≢ 0

abbrev pub Low : Rows → ℕ → Type 0
Low rows n = (i : ℕ) (o : Order) → At rows i o → o.ticket ≤ n

rows_spread : (n : ℕ) (rows : Rows) → Named rows → Low rows n → AllByRecursion (λ x. spread (λ t. worth t x) n ≡ pieces_in x) rows
rows_spread n [] z l = tt
rows_spread n (None ∷ rs) z l = (spread_none n, rows_spread n rs (λ i o a. z (suc i) o a) (λ i o a. l (suc i) o a))
rows_spread n (Some o ∷ rs) z l =
    (spread_hit o.ticket o.pieces n (z 0 o refl) (l 0 o refl), rows_spread n rs (λ i o a. z (suc i) o a) (λ i o a. l (suc i) o a))

pub balance : (m : ℕ) (rows rows' : Rows) (slips : List Slip) → Named rows → Named rows' → Low rows m → Low rows' m →
    AllByRecursion OutNamed slips → Ledger rows slips rows' →
    held_in rows ≡ sum_by done_on slips + sum_by out_on slips + held_in rows'
balance m rows rows' slips z z' l l' outs h =
    let n = sum_by tickets_on slips + m in
    let b = below n slips (omega arith) in
    let r = spread_list worth pieces_in n rows (rows_spread n rows z (λ i o a. omega (arith, l i o a))) in
    let r' = spread_list worth pieces_in n rows' (rows_spread n rows' z' (λ i o a. omega (arith, l' i o a))) in
    let t = spread_list traded_by done_on n slips (trades_spread n slips b) in
    let u = spread_list out_by out_on n slips (outs_spread n slips b outs) in
    let e = spread_same (λ t. left t rows) (λ t. sum_by (traded_by t) slips + sum_by (out_by t) slips + left t rows') h n in
    let f = spread_add (λ t. sum_by (traded_by t) slips + sum_by (out_by t) slips) (λ t. left t rows') n in
    let g = spread_add (λ t. sum_by (traded_by t) slips) (λ t. sum_by (out_by t) slips) n in
    omega (arith, r, r', t, u, e, f, g)

-- ---- who goes out has a ticket
named_map : (g : Option Order → Option Order) → g None ≡ None → ((o p : Order) → g (Some o) ≡ Some p → p.ticket ≡ o.ticket) →
    (rows : Rows) → Named rows → Named (map g rows)
named_map g gn k [] z i o a = none_some o a
named_map g gn k (None ∷ rs) z zero o a = none_some o (sym gn ∙ a)
named_map g gn k (Some x ∷ rs) z zero o a = λ e. z 0 x refl (sym (k x o a) ∙ e)
named_map g gn k (None ∷ rs) z (suc i) o a = named_map g gn k rs (λ j p b. z (suc j) p b) i o a
named_map g gn k (Some x ∷ rs) z (suc i) o a = named_map g gn k rs (λ j p b. z (suc j) p b) i o a

fewer_ticket : (ticket n : ℕ) (o p : Order) → fewer ticket n (Some o) ≡ Some p → p.ticket ≡ o.ticket
fewer_ticket ticket n o p =
    cond_both (eqb o.ticket ticket) _ _ (λ z. z ≡ Some p → p.ticket ≡ o.ticket)
    (λ _ e. (lower_follows n o p e).lowered.ticket) (λ _ e. let k : o ≡ p = cc in ap (λ z. z.ticket) (sym k))

without_ticket : (ticket : ℕ) (o p : Order) → without ticket (Some o) ≡ Some p → p.ticket ≡ o.ticket
without_ticket ticket o p =
    cond_both (eqb o.ticket ticket) _ _ (λ z. z ≡ Some p → p.ticket ≡ o.ticket)
    (λ _ e. none_some p e) (λ _ e. let k : o ≡ p = cc in ap (λ z. z.ticket) (sym k))

past_named : (x : Slip) (b : Board) → Named b.table.rows → Named (past x b).table.rows
past_named (Trade price pieces buyer seller) b z =
    named_map (fewer seller pieces) refl (fewer_ticket seller pieces) (map (fewer buyer pieces) b.table.rows)
    (named_map (fewer buyer pieces) refl (fewer_ticket buyer pieces) b.table.rows z)
past_named (Out cause ticket pieces) b z = named_map (without ticket) refl (without_ticket ticket) b.table.rows z

pub outs_named : (rank : Rank) (f : Frame) (b : Board) (slips : List Slip) → Named b.table.rows → FairSlips rank f b slips →
    AllByRecursion OutNamed slips
outs_named rank f b [] z h = tt
outs_named rank f b (Trade price pieces buyer seller ∷ xs) z h =
    (tt, outs_named rank f (past (Trade price pieces buyer seller) b) xs (past_named (Trade price pieces buyer seller) b z) h.1)
outs_named rank f b (Out cause ticket pieces ∷ xs) z h = (
  (λ e. z h.0.place h.0.order h.0.stands (h.0.named ∙ e)),
  outs_named rank f (past (Out cause ticket pieces) b) xs (past_named (Out cause ticket pieces) b z) h.1,
)

-- slips free and lower places, and make none
pub past_length : (slips : List Slip) (b : Board) → length (past_all slips b).table.rows ≡ length b.table.rows
past_length [] b = refl
past_length (Trade price pieces buyer seller ∷ xs) b =
    past_length xs (past (Trade price pieces buyer seller) b)
    ∙ length-map (map (fewer buyer pieces) b.table.rows) (fewer seller pieces) ∙ length-map b.table.rows (fewer buyer pieces)
past_length (Out cause ticket pieces ∷ xs) b = past_length xs (past (Out cause ticket pieces) b) ∙ length-map b.table.rows
    (without ticket)
