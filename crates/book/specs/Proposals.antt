-- What an order and each side of the quote propose.
use Rattle.book.specs.Sides.{Side, Buy, Sell}
pub use Rattle.book.specs.declared.order.Order.{Order}
pub use Rattle.book.specs.declared.proposal.Proposal.{Proposal}
pub use Rattle.book.specs.declared.quote.Quote.{Quote}

-- an order's number is its ticket
abbrev pub proposal : Order → Proposal
proposal o = record { price = o.price; pieces = o.pieces; number = o.ticket }

-- the quote buys at its bid and sells at its ask
abbrev pub side_of : Quote → Side → Proposal
side_of q Buy = record { price = q.bid; pieces = q.bid_pieces; number = q.number }
side_of q Sell = record { price = q.ask; pieces = q.ask_pieces; number = q.number }
