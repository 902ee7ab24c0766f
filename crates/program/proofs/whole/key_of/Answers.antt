use Rattle.std.proofs.Common.{min, length, vec_items, ap, ◌∙◌}
use Rattle.program.proofs.Keying.{finished, turned}
use Rattle.program.proofs.whole.key_of.Goals as goal

pub loop-piece-preserved : goal.loop-piece-preserved
loop-piece-preserved g c =
    let step = c.in-Some.ensures.steps in
    let inv = c.loop-piece.invariant in (
      step.0 ∙ inv.0,
      turned (g.C.Clerk.tells c.loop-piece.clerk) (g.C.Clerk.tells c.respond-response.new.self) _ (vec_items c.loop-piece.key) (vec_items c.extend_from_slice.new.self) c.loop-piece.piece-iterator.rest.now inv.1
          c.in-Some.piece.now c.next.new.self.rest.now c.text.result.now _ step.1.0 (step.1.1 ∙ ap (λ n. min n (length c.loop-piece.piece-iterator.rest.now)) inv.0) step.1.2
          c.respond-response.ensures (c.text.ensures ∙ c.write.ensures) c.in_ok-extend_from_slice.ensures.items,
    )

pub returns-clause-is : goal.returns-clause-is
returns-clause-is g c =
    finished (g.C.Clerk.tells c.loop-piece.clerk) (g.C.Clerk.tells c.loop-piece.clerk) _ (vec_items c.loop-piece.key) (vec_items c.extend_from_slice-2.new.self) c.loop-piece.piece-iterator.rest.now c.loop-piece.invariant.1
    c.text-2.result.now _ c.in-None.ensures.steps.1.0 c.end-response.ensures (c.text-2.ensures ∙ c.write_parting.ensures) c.in_ok-extend_from_slice-2.ensures.items
