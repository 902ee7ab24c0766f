-- What a slip leaves of a board, read from the slip alone.
use Rattle.std.specs.Prelude.{ℕ, Bool, true, false, cond, ◌||◌, List, [], ◌∷◌, map, Some, None, Option, ◌==◌}
use Rattle.book.specs.Causes.{Cause, Cancelled, OutsideQuote, Expired, BeyondLimit}
use Rattle.book.specs.Sides.{Side, Buy, Sell}
use Rattle.book.specs.Proposals.{Order}
use Rattle.book.specs.Tables.{lower, lower_quote}
use Rattle.book.specs.Moves.{Board}
use Rattle.book.specs.Makes.{Slip, Trade, Out, board_of, on_quote}

-- the order of a ticket has `n` pieces fewer
abbrev pub fewer : ℕ → ℕ → Option Order → Option Order
fewer ticket n None = None
fewer ticket n (Some o) = cond (o.ticket == ticket) (lower n o) (Some o)

-- the order of a ticket is gone
abbrev pub without : ℕ → Option Order → Option Order
without ticket None = None
without ticket (Some o) = cond (o.ticket == ticket) None (Some o)

-- one party of a trade has `n` pieces fewer: the order of that ticket, or under 0 the quote's side
abbrev pub delivers : Side → ℕ → ℕ → Board → Board
delivers s ticket n b =
    board_of (map (fewer ticket n) b.table.rows) (cond (ticket == 0) (on_quote (lower_quote s n) b.quote) b.quote) b.halted

-- an order that goes out for Limit 2 takes the quote away with it and halts the book
abbrev pub halts : Cause → Bool
halts Cancelled = false
halts OutsideQuote = false
halts Expired = false
halts BeyondLimit = true

abbrev pub past : Slip → Board → Board
past (Trade price pieces buyer seller) b = delivers Sell seller pieces (delivers Buy buyer pieces b)
past (Out cause ticket pieces) b =
    board_of (map (without ticket) b.table.rows) (cond (halts cause) None b.quote) (halts cause || b.halted)

abbrev pub past_all : List Slip → Board → Board
past_all [] b = b
past_all (s ∷ ss) b = past_all ss (past s b)
