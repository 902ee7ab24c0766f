-- What a line asks for: a letter, its mark and its numbers, with 0 and - where nothing is asked.
use Rattle.std.specs.Prelude.{ℕ, Bool, true, false, cond, ◌&&◌, Some, None, Option, ◌==◌}
use Rattle.figures.specs.declared.offer.Offer.{Offer}
use Rattle.book.specs.declared.side.Side.{Side}
use Rattle.book.specs.declared.side.Side.TheVariants.{Buy, Sell}
use Rattle.records.specs.declared.line.Line.{Line}
use Rattle.session.specs.declared.quotation.Quotation.{Quotation}
use Rattle.program.specs.Openings.{opening_of, where', with}
use Rattle.program.specs.Unused.{empty_from_first, empty_from_second, empty_from_third, is_bare, is_plain}
use Rattle.whole_key.specs.declared.request.Call.{Call}
use Rattle.whole_key.specs.declared.request.Call.TheVariants.{Enter, Cancel, Quote, Validate, Clock, Withdraw, Decline, Renew}
use Rattle.whole_key.specs.declared.request.Request.{Request}
use Rattle.whole_key.specs.declared.request.Request.TheVariants as request

-- ---- marks

-- B and S, and b and s for execute-and-cancel
abbrev pub order_of : ℕ → Option (Side × Bool)
order_of mark =
    cond (mark == 66) (Some (Buy, false))
    (cond (mark == 83) (Some (Sell, false))
    (cond (mark == 98) (Some (Buy, true))
    (cond (mark == 115) (Some (Sell, true)) None)))

-- F for flagged, P for plain
abbrev pub flag_of : ℕ → Option Bool
flag_of mark = cond (mark == 70) (Some true) (cond (mark == 80) (Some false) None)

-- ---- the letters

-- E: sender, price, pieces
abbrev pub enter_call : Line → Option Call
enter_call l =
    with (order_of l.mark) (λ order.
    where' (empty_from_third l)
    (Enter (record { sender = l.five; side = order.0; price = l.first; pieces = l.second; brief = order.1 })))

-- C: sender, ticket
abbrev pub cancel_call : Line → Option Call
cancel_call l = where' (is_plain l.mark && empty_from_second l) (Cancel l.five l.first)

abbrev pub offer_of : Line → Offer
offer_of l = record { bid = l.first; bid_pieces = l.second; ask = l.third; ask_pieces = l.fourth }

-- Q and V: bid and ask, each with its pieces
abbrev pub quotation_of : Line → Option Quotation
quotation_of l = with (flag_of l.mark) (λ flagged. where' (l.five == 0) (record { offer = offer_of l; flagged = flagged }))

-- T: seconds
abbrev pub clock_call : Line → Option Call
clock_call l = where' (is_plain l.mark && empty_from_first l) (Clock l.five)

-- W, D, R and X: nothing more
abbrev pub bare_request : Request → Line → Option Request
bare_request r l = where' (is_bare l) r

abbrev pub as_call : Option Call → Option Request
as_call call = with call (λ c. Some (request.Call c))

abbrev pub request_of : Line → Option Request
request_of l =
    cond (l.letter == 79) (with (opening_of l) (λ o. Some (request.Open o)))
    (cond (l.letter == 69) (as_call (enter_call l))
    (cond (l.letter == 67) (as_call (cancel_call l))
    (cond (l.letter == 81) (as_call (with (quotation_of l) (λ q. Some (Quote q))))
    (cond (l.letter == 86) (as_call (with (quotation_of l) (λ q. Some (Validate q))))
    (cond (l.letter == 84) (as_call (clock_call l))
    (cond (l.letter == 87) (bare_request (request.Call Withdraw) l)
    (cond (l.letter == 68) (bare_request (request.Call Decline) l)
    (cond (l.letter == 82) (bare_request (request.Call Renew) l)
    (cond (l.letter == 88) (bare_request request.Close l) None)))))))))
