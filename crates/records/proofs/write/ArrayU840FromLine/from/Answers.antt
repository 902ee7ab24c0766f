use Rattle.std.proofs.Common.{ap, ◌∙◌}
use Rattle.records.specs.Reading.{line_of}
use Rattle.records.proofs.RoundTrip.{laid_is, read_written}
use Rattle.records.proofs.write.ArrayU840FromLine.from.Goals as goal

pub returns : goal.returns
returns c =
    let is =
    laid_is c.args.line c.copy_from_slice.new.self c.copy_from_slice-2.new.self c.copy_from_slice-3.new.self c.copy_from_slice-4.new.self
    c.copy_from_slice-5.new.self (c.copy_from_slice.ensures.after ∙ c.digits.ensures)
    (c.copy_from_slice-2.ensures.after ∙ c.digits-2.ensures)
    (c.copy_from_slice-3.ensures.after ∙ c.digits-3.ensures)
    (c.copy_from_slice-4.ensures.after ∙ c.digits-4.ensures)
    (c.copy_from_slice-5.ensures.after ∙ c.digits-5.ensures)
    in
    record { is = is; back = λ fits. ap line_of is ∙ read_written c.args.line fits }
