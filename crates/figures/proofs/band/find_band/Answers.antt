use Rattle.std.proofs.Common.{◌≡◌, ℕ, List, sym, ◌∙◌, subst}
use Rattle.std.proofs.lemmas.List.{at_drop_all}
use Rattle.figures.specs.Bands.{FirstReach, band_of}
use Rattle.figures.specs.declared.band.Band.{Band}
use Rattle.figures.proofs.Lookups.{first_reach, hit, miss}
use Rattle.figures.proofs.band.find_band.Goals as goal

-- both clauses from the one equation
pub record Found {T : Type 0} (above : T) (rows : List (Band T)) (at : ℕ) (r : T) : Type 0 where
  pub is : r ≡ band_of above rows at
  pub first : FirstReach above rows at r

found : {T : Type 0} (above : T) (rows : List (Band T)) (at : ℕ) (r : T) → band_of above rows at ≡ r → Found above rows at r
found above rows at r e = record { is = sym e; first = subst (FirstReach above rows at) e (first_reach above at rows) }

pub returns-then-reaches : goal.returns-then-reaches
returns-then-reaches g c =
    let f = found _ _ _ _ (c.loop-row.invariant ∙ hit _ _ _ _ c.row-item.result c.loop-row-test.true c.row-item.is (sym c.reaches.ensures ∙ c.if-reaches.true)) in
    record { is = f.is; first = f.first }

pub loop-row-preserved : goal.loop-row-preserved
loop-row-preserved g c =
    c.loop-row.invariant ∙ miss _ _ _ _ c.row-item.result c.loop-row-test.true c.row-item.is (sym c.reaches.ensures ∙ c.if-reaches.false)

pub returns : goal.returns
returns g c =
    let f = found _ _ _ _ (c.loop-row.invariant ∙ at_drop_all (λ bs. band_of c.args.above bs c.args.at) _ _ c.loop-row-test.false) in
    record { is = f.is; first = f.first }
