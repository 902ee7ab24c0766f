-- What holds at every place of a table: one test that is computed over its rows, and the rule of tables.
use Rattle.std.specs.Prelude.{◌≡◌, ℕ, ◌≤◌, Bool, true, false, ◌&&◌, leb, List, [], ◌∷◌, nat_le, refl}
use Rattle.std.proofs.Common.{arith, leb-true, lit≤}
use Rattle.std.proofs.lemmas.Bool.{cond_both}
use Rattle.figures.specs.Bands.{band_of}
use Rattle.figures.specs.Prices.{tick_of, tick_rows}
use Rattle.figures.specs.Sheets.{Lawful, Limits, Product, Leveraged, Investment, limit_rows, limit_two, limits_above, measures, product}
use Rattle.figures.specs.declared.band.Band.{Band}

-- the test passes at each row
abbrev pub every : {T : Type 0} → (T → Bool) → List (Band T) → Bool
every test [] = true
every test (b ∷ bs) = test b.value && every test bs

both : (a b : Bool) → (a && b) ≡ true → (a ≡ true) × (b ≡ true)
both true b e = (refl, e)
both false b e = absurd (grind arith)

-- a table's rule: what passes at each row, and above them all, passes at every place
pub everywhere : {T : Type 0} (test : T → Bool) (above : T) (rows : List (Band T)) → test above ≡ true → every test rows ≡ true → (at : ℕ) → test (band_of above rows at) ≡ true
everywhere test above [] a e at = a
everywhere {T = T} test above (b ∷ bs) a e at =
    let e2 = both (test b.value) (every test bs) e in
    cond_both (nat_le at b.up_to) b.value (band_of above bs at) (λ (v : T). test v ≡ true) (λ _. e2.0) (λ _. everywhere test above bs a e2.1 at)

abbrev pub low_by : {T : Type 0} → (T → ℕ) → T → Bool
low_by limit t = nat_le (limit t) 2000

-- a sheet that reads both limits off the row of a table keeps the law where every row does
pub table_lawful : {T : Type 0} (one two : T → ℕ) (above : T) (rows : List (Band T)) (most : ℕ) →
    low_by one above ≡ true → every (low_by one) rows ≡ true → low_by two above ≡ true → every (low_by two) rows ≡ true → 1 ≤ most → most ≤ 10000000 →
    Lawful (λ reference. measures (one (band_of above rows reference)) (two (band_of above rows reference)) most)
table_lawful one two above rows most a a_rows b b_rows some few =
    record {
      limit1 = λ r. leb-true (one (band_of above rows r)) 2000 (everywhere (low_by one) above rows a a_rows r);
      limit2 = λ r. leb-true (two (band_of above rows r)) 2000 (everywhere (low_by two) above rows b b_rows r);
      some = λ r. some;
      few = λ r. few;
    }

abbrev limit_one : Limits → ℕ
limit_one l = l.one

pub product_lawful : (p : Product) → Lawful (product p)
product_lawful Leveraged = table_lawful limit_one (limit_two Leveraged) limits_above limit_rows 5000000 refl refl refl refl (lit≤ tt) (lit≤ tt)
product_lawful Investment = table_lawful limit_one (limit_two Investment) limits_above limit_rows 10000000 refl refl refl refl (lit≤ tt) (lit≤ tt)

-- no tick is 0
pub tick_some : (price : ℕ) → 1 ≤ tick_of price
tick_some price = leb-true 1 (tick_of price) (everywhere (leb 1) 100 tick_rows refl refl price)
