use Rattle.std.proofs.Common.{◌≡◌, length, sym, ap, ◌∙◌, arith}
use Rattle.session.specs.Phases.{opener_of}
use Rattle.whole_key.specs.Calls.{call_of}
use Rattle.whole_key.specs.Seats.{after, makes, seat_of, settled, tidied}
use Rattle.whole_key.proofs.Counting.{counted, told_lines_lem, told_opener}
use Rattle.program.proofs.Lawful.{ranking_lawful}
use Rattle.whole_key.proofs.open_day.OpenDay.make.Goals as goal

pub tidy-requires : goal.tidy-requires
tidy-requires c =
    let s = seat_of c.args.self.now in
    let call = call_of c.args.call in
    let told = counted s.day (ranking_lawful c.args.self.now.book.terms.ranking) s.state c.args.self.now.book.past s.held call in
    told_opener (makes s call) c.in_ok-answer.answer told c.in_ok-answer.ensures.value ∙ ap (λ z. opener_of z.state.phase) (sym c.in_ok-answer.ensures.after)

pub returns : goal.returns
returns c =
    let s = seat_of c.args.self.now in
    let call = call_of c.args.call in
    let done = c.in_ok-answer.ensures in
    let told = counted s.day (ranking_lawful c.args.self.now.book.terms.ranking) s.state c.args.self.now.book.past s.held call in
    let room : length c.args.paper.now ≡ 129 = omega arith in
    record {
      lines = told_lines_lem (makes s call) c.in_ok-answer.answer told done.value c.args.paper.now c.tidy.new.paper room (c.tidy.ensures.paper ∙ done.slips);
      after = c.tidy.ensures.after ∙ ap tidied done.after ∙ ap (λ z. settled z (after s call)) done.value;
    }
