use Rattle.std.proofs.Common.{◌≡◌, ◌≢◌, length, sym, ◌∙◌, arith}
use Rattle.std.proofs.lemmas.Bool.{eqb-false}
use Rattle.session.specs.Stories.{Decline}
use Rattle.whole_key.specs.Seats.{seat_of}
use Rattle.whole_key.proofs.Counting.{counted}
use Rattle.program.proofs.Lawful.{ranking_lawful}
use Rattle.whole_key.proofs.Tidying.{ends}
use Rattle.whole_key.proofs.open_day.OpenDay.close.Goals as goal

pub returns : goal.returns
returns c =
    let s = seat_of c.args.self in
    let told = counted s.day (ranking_lawful c.args.self.book.terms.ranking) s.state c.args.self.book.past s.held Decline in
    let some : s.held ≢ 0 = λ e. eqb-false s.held 0 (sym c.holds-is_blank.ensures ∙ c.if-is_blank.false) e in
    let room : length c.args.paper.now ≡ 129 = omega arith in
    let done = c.decline.ensures in
    ends s.day s.state s.held c.unwrap-answer.result c.decline.new.self.state c.args.paper.now c.decline.new.out c.close-2.result
    told some room (sym c.unwrap-answer.ensures ∙ done.told.result) done.told.state done.told.slips c.close-2.ensures.value
