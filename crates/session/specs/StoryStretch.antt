-- The stretch from a halt to the next accepted quote.
use Rattle.std.specs.Prelude.{Bool, true, false, not, ◌&&◌, ◌||◌, List, [], ◌∷◌}
use Rattle.session.specs.Phases.{PhaseKind}
use Rattle.session.specs.Stories.{Call, Enter, Cancel, Quoting, Withdraw, Collect, Validate, Decline, Clock, Renew, Reply, Refused, Answered, Handed, Event}
use Rattle.session.specs.declared.phase.PhaseKind.TheVariants as kind

abbrev pub is_halt : PhaseKind → Bool
is_halt kind.Dark = false
is_halt kind.Lit = false
is_halt kind.Asked = false
is_halt kind.Halted = true

abbrev pub is_quote : Call → Bool
is_quote (Enter e) = false
is_quote (Cancel sender ticket) = false
is_quote (Quoting o flagged) = true
is_quote Withdraw = false
is_quote Collect = false
is_quote (Validate o flagged) = false
is_quote Decline = false
is_quote (Clock seconds) = false
is_quote Renew = false

-- after one more event: an answer of a halted book begins the stretch, an accepted quote ends it
abbrev pub stretched : Call → Reply → Bool → Bool
stretched c (Refused fault) was = was
stretched c (Answered a) was = is_halt a.phase || (not (is_quote c) && was)
stretched c (Handed summons) was = was

abbrev pub stretch : List Event → Bool
stretch [] = false
stretch (e ∷ es) = stretched e.call e.reply (stretch es)
