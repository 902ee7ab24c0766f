-- Runs that the laws refuse, each with one thing wrong.
use Rattle.std.specs.Prelude.{ℕ, false, List, [], ◌∷◌, Some, None, Option}
use Rattle.book.specs.Causes.{OutsideQuote}
use Rattle.book.specs.Sides.{Side, Buy, Sell}
use Rattle.book.specs.Proposals.{Order, Quote}
use Rattle.book.specs.Ranks.{by_time}
use Rattle.book.specs.Moves.{Board, Frame}
use Rattle.book.specs.Makes.{Slip, Trade, Out, board_of}
use Rattle.book.specs.Cross.{Run}
use Rattle.book.specs.Moments.{past_all}
use Rattle.book.specs.Sound.{Sound}
use Rattle.book.specs.CrossLaws.{CrossLaws}

abbrev pub order : ℕ → Side → ℕ → ℕ → Order
order ticket side price pieces = record { ticket = ticket; sender = 7; side = side; price = price; pieces = pieces; brief = false }

abbrev pub quote : Quote
quote = record { number = 1; bid = 99000; bid_pieces = 500; ask = 101000; ask_pieces = 500; flagged = false }

abbrev pub frame : Option ℕ → Frame
frame opener = record { bid = 99000; ask = 101000; opener = opener; entered = false; dynamic = 100000; limit = 50 }

-- the run that such slips tell
abbrev pub run : Board → List Slip → Run
run b slips = record { board = past_all slips b; slips = slips; asked = None }

abbrev pub Refused : Frame → Board → Run → Type 0
Refused f b r = CrossLaws by_time f b r → ⊥

-- a buy opened the RFE, and a sell that came in later waits
abbrev pub waits : Board
waits = board_of (Some (order 2 Buy 105000 100) ∷ Some (order 3 Sell 100000 100) ∷ []) (Some quote) false

-- a buy and a sell meet above the governing ask
abbrev pub high : Board
high = board_of (Some (order 2 Buy 105000 100) ∷ Some (order 3 Sell 102000 100) ∷ []) None false

-- the second buy is the better one
abbrev pub two_buys : Board
two_buys = board_of (Some (order 2 Buy 100000 100) ∷ Some (order 3 Buy 100500 100) ∷ Some (order 4 Sell 100000 100) ∷ []) None false

-- a buy and a sell both reach the quote
abbrev pub both_reach : Board
both_reach = board_of (Some (order 2 Buy 101000 100) ∷ Some (order 3 Sell 99000 100) ∷ []) (Some quote) false

-- one pair, and two pairs
abbrev pub one_pair : Board
one_pair = board_of (Some (order 2 Buy 100000 100) ∷ Some (order 3 Sell 100000 100) ∷ []) None false

abbrev pub two_pairs : Board
two_pairs =
    board_of (Some (order 2 Buy 100000 100) ∷ Some (order 3 Sell 100000 100) ∷ Some (order 4 Buy 100000 50) ∷ Some (order 5 Sell 100000 50) ∷ []) None false

-- the boards are sound: of each of them the cross itself keeps the laws
pub record SoundBoards : Type 0 where
  pub waits : Sound (frame (Some 2)) waits
  pub high : Sound (frame None) high
  pub two_buys : Sound (frame None) two_buys
  pub both_reach : Sound (frame None) both_reach
  pub one_pair : Sound (frame None) one_pair
  pub two_pairs : Sound (frame None) two_pairs

pub record Teeth : Type 0 where
  pub sound : SoundBoards
  -- the waiting sell is served before the quote's ask
  pub waiting : Refused (frame (Some 2)) waits (run waits (Trade 100000 100 2 3 ∷ []))
  -- a trade above the governing ask
  pub dear : Refused (frame None) high (run high (Trade 105000 100 2 3 ∷ []))
  -- the better buy is passed over
  pub passed_over : Refused (frame None) two_buys (run two_buys (Trade 100000 100 2 4 ∷ []))
  -- the sell is served first while a buy reaches the quote
  pub sell_first : Refused (frame None) both_reach (run both_reach (Trade 99000 100 0 3 ∷ Trade 101000 100 2 0 ∷ []))
  -- the first pair is worked and the rest dropped
  pub dropped : Refused (frame None) two_pairs (run two_pairs (Trade 100000 100 2 3 ∷ []))
  -- an order is taken out in place of a trade
  pub taken_out : Refused (frame None) one_pair (run one_pair (Out OutsideQuote 3 100 ∷ []))
  -- a piece is lost: both orders are gone, and the slip has 99 of 100
  pub lost : Refused (frame None) one_pair
      (record { board = board_of (None ∷ None ∷ []) None false; slips = Trade 100000 99 2 3 ∷ []; asked = None })
