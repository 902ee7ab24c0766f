use Rattle.std.proofs.Common.{min, length, take, sym, refl, ap, ◌∙◌, arith}
use Rattle.program.proofs.Keying.{finished, turned}
use Rattle.program.proofs.Lending.{lent, too_short}
use Rattle.program.proofs.lent.key_into.Goals as goal

pub loop-piece-preserved : goal.loop-piece-preserved
loop-piece-preserved g c =
    let step = c.in-Some.ensures.steps in
    let inv = c.loop-piece.invariant in
    let got = c.in_ok-at.ensures in (
      step.0 ∙ inv.0,
      omega (arith, got.long, got.text.1),
      got.long ∙ inv.2,
      turned (g.C.Clerk.tells c.loop-piece.clerk) (g.C.Clerk.tells c.respond-response.new.self) _ (take c.loop-piece.at c.loop-piece.out) (take c.in_ok-at.at c.append.new.out) c.loop-piece.piece-iterator.rest.now inv.3
          c.in-Some.piece.now c.next.new.self.rest.now c.text.result.now _ step.1.0 (step.1.1 ∙ ap (λ n. min n (length c.loop-piece.piece-iterator.rest.now)) inv.0) step.1.2
          c.respond-response.ensures (c.text.ensures ∙ c.write.ensures) got.text.2,
    )

pub returns-in_err-at : goal.returns-in_err-at
returns-in_err-at g c =
    let step = c.in-Some.ensures.steps in
    let inv = c.loop-piece.invariant in
    let key = turned (g.C.Clerk.tells c.loop-piece.clerk) (g.C.Clerk.tells c.respond-response.new.self) _ (take c.loop-piece.at c.loop-piece.out) _ c.loop-piece.piece-iterator.rest.now inv.3
    c.in-Some.piece.now c.next.new.self.rest.now c.text.result.now _ step.1.0 (step.1.1 ∙ ap (λ n. min n (length c.loop-piece.piece-iterator.rest.now)) inv.0) step.1.2
    c.respond-response.ensures (c.text.ensures ∙ c.write.ensures) refl in
    rw c.from_residual.ensures (too_short c.loop-piece.out c.text.result.now _ c.loop-piece.at inv.1 _ _ (sym inv.2) key c.in_err-at.ensures.text)

pub returns : goal.returns
returns g c =
    let inv = c.loop-piece.invariant in
    lent c.loop-piece.out c.text-2.result.now _ c.loop-piece.at inv.1 c.append-2.result c.append-2.new.out _ (sym inv.2)
    (finished (g.C.Clerk.tells c.loop-piece.clerk) (g.C.Clerk.tells c.loop-piece.clerk) _ (take c.loop-piece.at c.loop-piece.out) _ c.loop-piece.piece-iterator.rest.now inv.3
    c.text-2.result.now _ c.in-None.ensures.steps.1.0 c.end-response.ensures (c.text-2.ensures ∙ c.write_parting.ensures) refl) c.append-2.ensures.text
