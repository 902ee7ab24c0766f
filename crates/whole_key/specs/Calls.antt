-- The call that a record asks for.
use Rattle.session.specs.Stories as session
use Rattle.whole_key.specs.declared.request.Call.{Call}
use Rattle.whole_key.specs.declared.request.Call.TheVariants.{Enter, Cancel, Quote, Validate, Clock, Withdraw, Decline, Renew}

abbrev pub call_of : Call → session.Call
call_of (Enter e) = session.Enter e
call_of (Cancel sender ticket) = session.Cancel sender ticket
call_of (Quote q) = session.Quoting q.offer q.flagged
call_of (Validate q) = session.Validate q.offer q.flagged
call_of (Clock seconds) = session.Clock seconds
call_of Withdraw = session.Withdraw
call_of Decline = session.Decline
call_of Renew = session.Renew
