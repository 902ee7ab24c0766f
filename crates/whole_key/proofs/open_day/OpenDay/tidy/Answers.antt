use Rattle.std.proofs.Common.{◌≡◌, ◌≢◌, length, sym, ap, ◌∙◌, arith}
use Rattle.std.proofs.lemmas.Bool.{eqb-false}
use Rattle.book.specs.Cross.{written}
use Rattle.session.specs.Calls.{declined}
use Rattle.session.specs.Phases.{opener_of}
use Rattle.session.specs.Terms.{day_of}
use Rattle.figures.specs.Sheets.{product}
use Rattle.program.specs.Rankings.{ranking_means}
use Rattle.whole_key.proofs.Tidying.{declined_still, tidied_is}
use Rattle.whole_key.proofs.open_day.OpenDay.tidy.Goals as goal

pub returns : goal.returns
returns c =
    let now = c.args.self.now in
    let s = now.book.state in
    let held = now.summons.number in
    let d = day_of product ranking_means now.book.terms in
    let room : length c.args.paper.now ≡ 129 = omega arith in
    let other : held ≢ opener_of s.phase = λ e. eqb-false held c.args.opener (sym c.holds.ensures ∙ c.if-holds.false) (e ∙ sym c.requires) in
    record {
      after = ap (λ t. record { day = day_of product ranking_means t; state = c.collect-self.new.self.state; held = c.collect-self.result.number }) (c.collect-self.ensures.terms ∙ c.decline.ensures.terms)
          ∙ tidied_is d s held c.decline.new.self.state c.collect-self.new.self.state c.collect-self.result.number (length c.args.paper.now) other room c.decline.ensures.told.state c.collect-self.ensures.value c.collect-self.ensures.after;
      paper = c.decline.ensures.told.slips ∙ ap (λ n. written (declined d s n held).slips c.args.paper.now) room ∙ ap (λ o. written o.slips c.args.paper.now) (declined_still d s held other);
    }
