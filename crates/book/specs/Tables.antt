-- The rows of the table: what stands, what is left after a trade, and where a new order goes.
use Rattle.std.specs.Prelude.{◌≡◌, ℕ, ◌-◌, Bool, cond, List, [], ◌∷◌, position, is_none, Some, None, sum_by, Option, ◌==◌, nat_le, nat_lt, slice_index_or}
use Rattle.book.specs.Sides.{Side, Buy, Sell}
use Rattle.book.specs.Proposals.{Order, Quote}

-- a row is a place: free, or with its order
abbrev pub Rows : Type 0
Rows = List (Option Order)

-- an order stands at a place
abbrev pub At : Rows → ℕ → Order → Type 0
At rows i o = slice_index_or rows i None ≡ Some o

-- an order with `n` pieces fewer; with none left its place is free
abbrev pub lower : ℕ → Order → Option Order
lower n o =
    cond (nat_lt n o.pieces)
    (Some (record { ticket = o.ticket; sender = o.sender; side = o.side; price = o.price; pieces = o.pieces - n; brief = o.brief }))
    None

-- the quote with `n` pieces fewer on one side; with none left there it goes
abbrev pub lower_quote : Side → ℕ → Quote → Option Quote
lower_quote Buy n q =
    cond (nat_lt n q.bid_pieces)
    (Some (record { number = q.number; bid = q.bid; bid_pieces = q.bid_pieces - n; ask = q.ask; ask_pieces = q.ask_pieces; flagged = q.flagged }))
    None
lower_quote Sell n q =
    cond (nat_lt n q.ask_pieces)
    (Some (record { number = q.number; bid = q.bid; bid_pieces = q.bid_pieces; ask = q.ask; ask_pieces = q.ask_pieces - n; flagged = q.flagged }))
    None

-- the pieces of a ticket that stand in a row, and in the table
abbrev pub worth : ℕ → Option Order → ℕ
worth t None = 0
worth t (Some o) = cond (o.ticket == t) o.pieces 0

abbrev pub left : ℕ → Rows → ℕ
left t rows = sum_by (worth t) rows

-- how many orders stand
abbrev pub one : Option Order → ℕ
one None = 0
one (Some o) = 1

abbrev pub standing : Rows → ℕ
standing rows = sum_by one rows

abbrev pub is_full : Rows → Bool
is_full rows = nat_le 128 (standing rows)

-- the first free place
abbrev pub free : Rows → Option ℕ
free rows = position is_none rows

-- a new order takes the first free place; where there is none, all stays
unfoldable pub place : Order → Rows → Rows
place o [] = []
place o (None ∷ rs) = Some o ∷ rs
place o (Some p ∷ rs) = Some p ∷ place o rs
