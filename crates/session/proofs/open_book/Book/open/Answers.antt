use Rattle.std.proofs.Common.{ap, ◌∙◌}
use Rattle.session.specs.Days.{fresh}
use Rattle.session.proofs.Pasts.{opened}
use Rattle.session.proofs.open_book.Book.open.Goals as goal

pub invariant_of-result : goal.invariant_of-result
invariant_of-result g c =
    let p = c.args.particulars in
    record { past = opened p.reference p.reply _ (c.fresh-state.ensures ∙ ap fresh c.reference.ensures) }
