-- The next move of a cross, read from what stands.
use Rattle.std.specs.Prelude.{ℕ, min, Bool, cond, ◌&&◌, Some, None, Option, nat_le, nat_lt}
use Rattle.figures.specs.Limits.{is_within}
use Rattle.book.specs.Causes.{OutsideQuote, Expired}
use Rattle.book.specs.Sides.{Side, Buy, Sell, opposite}
use Rattle.book.specs.Proposals.{Proposal, Quote, proposal, side_of}
use Rattle.book.specs.Ranks.{Rank}
use Rattle.book.specs.Picks.{Any, Taking, Partner, Brief}
use Rattle.book.specs.Tables.{Rows}
use Rattle.book.specs.Firsts.{Found, first}
pub use Rattle.book.specs.Boards.{Board}
pub use Rattle.book.specs.declared.frame.Frame.{Frame}
pub use Rattle.book.specs.declared.moves.Move.{Move}
pub use Rattle.book.specs.declared.moves.Move.TheVariants.{Stop, Ask, Deal, Strike, Halt}

-- one party of a trade: an order in its row, or none for the quote
abbrev pub Party : Type 0
Party = Option Found

-- a trade has to be within Limit 2 of the dynamic price
abbrev pub in_limit : Frame → ℕ → Bool
in_limit f price = is_within price f.dynamic f.limit

-- from the governing bid to the governing ask
abbrev pub in_quote : Frame → ℕ → Bool
in_quote f price = nat_le f.bid price && nat_le price f.ask

-- ---- step A: a taker and its partner

-- the taker's side decides who buys
abbrev pub dealt : Side → Party → Party → ℕ → ℕ → Move
dealt Buy taker partner price pieces = Deal taker partner price pieces
dealt Sell taker partner price pieces = Deal partner taker price pieces

-- the price is the partner's, and the smaller number of pieces trades
unfoldable pub trading : Frame → Side → Found → Party → Proposal → Move
trading f s t partner p =
    cond (in_limit f p.price) (dealt s (Some t) partner p.price (min t.order.pieces p.pieces)) (Halt t)

-- a flagged quote is asked before any test of the price
abbrev pub with_quote : Frame → Quote → Side → Found → Move
with_quote f q s t = cond (q.flagged && f.entered) (Ask t.order.ticket) (trading f s t None (side_of q (opposite s)))

abbrev pub with_order : Frame → Side → Found → Found → Move
with_order f s t p = trading f s t (Some p) (proposal p.order)

-- the partner is the quote, unless an order ranks ahead of it
abbrev pub choice : Rank → Frame → Quote → Side → Found → Option Found → Move
choice rank f q s t None = with_quote f q s t
choice rank f q s t (Some p) = cond (rank (opposite s) (proposal p.order) (side_of q (opposite s))) (with_order f s t p) (with_quote f q s t)

abbrev pub step_a : Rank → Frame → Rows → Quote → Side → Found → Move
step_a rank f rows q s t = choice rank f q s t (first rank (Partner (opposite s) q f.opener) rows)

-- ---- the tail: execute-and-cancel orders, lowest ticket first

abbrev pub expiry : Option Found → Move
expiry None = Stop
expiry (Some f) = Strike Expired f

abbrev pub sweep : Rank → Rows → Move
sweep rank rows = expiry (first rank Brief rows)

-- ---- step B: the first-ranked buy and the first-ranked sell

abbrev pub elder : Found → Found → Found
elder a b = cond (nat_lt a.order.ticket b.order.ticket) a b

abbrev pub younger : Found → Found → Found
younger a b = cond (nat_lt a.order.ticket b.order.ticket) b a

abbrev pub pairing_at : Frame → Found → Found → ℕ → Move
pairing_at f b s price =
    cond (in_quote f price)
    (cond (in_limit f price) (Deal (Some b) (Some s) price (min b.order.pieces s.order.pieces)) (Halt (younger b s)))
    (Strike OutsideQuote (younger b s))

-- the price is that of the lower ticket
abbrev pub pairing : Frame → Found → Found → Move
pairing f b s = pairing_at f b s (elder b s).order.price

-- where no pair is left the tail follows
abbrev pub met : Rank → Frame → Rows → Option Found → Option Found → Move
met rank f rows None s = sweep rank rows
met rank f rows (Some b) None = sweep rank rows
met rank f rows (Some b) (Some s) = cond (nat_le s.order.price b.order.price) (pairing f b s) (sweep rank rows)

abbrev pub step_b : Rank → Frame → Rows → Move
step_b rank f rows = met rank f rows (first rank (Any Buy) rows) (first rank (Any Sell) rows)

-- ---- which step it is

-- the taker is the first-ranked buy that reaches the quote, or with none the first-ranked sell
abbrev pub taken : Rank → Frame → Rows → Quote → Option Found → Option Found → Move
taken rank f rows q (Some t) other = step_a rank f rows q Buy t
taken rank f rows q None (Some t) = step_a rank f rows q Sell t
taken rank f rows q None None = step_b rank f rows

abbrev pub steps : Rank → Frame → Rows → Option Quote → Move
steps rank f rows None = step_b rank f rows
steps rank f rows (Some q) = taken rank f rows q (first rank (Taking Buy q) rows) (first rank (Taking Sell q) rows)

-- after a halt only the tail is left
unfoldable pub next : Rank → Frame → Board → Move
next rank f b = cond b.halted (sweep rank b.table.rows) (steps rank f b.table.rows b.quote)
