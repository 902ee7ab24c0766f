-- The tests of an order's and a quote's figures: the first that fails is the fault.
use Rattle.std.specs.Prelude.{ℕ, Bool, cond, Ok, Err, Result, nat_lt}
use Rattle.figures.specs.declared.offer.Offer.{Offer}
use Rattle.figures.specs.declared.fault.Field.{Field}
use Rattle.figures.specs.declared.fault.Field.TheVariants as field
use Rattle.figures.specs.declared.fault.FiguresFault.{FiguresFault}
use Rattle.figures.specs.declared.fault.FiguresFault.TheVariants.{Sender, Price, Beyond, Pieces, Crossed}
use Rattle.figures.specs.Limits.{is_within}
use Rattle.figures.specs.Pieces.{are_allowed}
use Rattle.figures.specs.Prices.{is_price}
use Rattle.figures.specs.Senders.{is_sender}
use Rattle.figures.specs.Sheets.{Measures}

abbrev pub Checked : Type 0
Checked = Result (Unit {0}) FiguresFault

-- a test that has to hold, and the fault where it does not
abbrev pub holds : {E : Type 0} → Bool → E → Result (Unit {0}) E
holds passed fault = cond passed (Ok tt) (Err fault)

-- the second check counts only where the first found nothing
abbrev pub and : Checked → Checked → Checked
and (Ok u) later = later
and (Err fault) later = Err fault

abbrev pub sender_check : ℕ → Checked
sender_check sender = holds (is_sender sender) Sender

abbrev pub price_check : ℕ → Field → Checked
price_check price f = holds (is_price price) (Price f)

abbrev pub cross_check : Offer → Checked
cross_check offer = holds (nat_lt offer.bid offer.ask) Crossed

-- Limit 1 lies around the reference
abbrev pub beyond_check : (ℕ → Measures) → ℕ → ℕ → Field → Checked
beyond_check means reference price f = holds (is_within price reference (means reference).limit1) (Beyond f)

abbrev pub pieces_check : (ℕ → Measures) → ℕ → ℕ → ℕ → Field → Checked
pieces_check means reference price pieces f = holds (are_allowed pieces price reference (means reference).turnover) (Pieces f)

abbrev pub order_check : (ℕ → Measures) → ℕ → ℕ → ℕ → Checked
order_check means reference price pieces =
    and (price_check price field.Price)
    (and (beyond_check means reference price field.Price)
    (pieces_check means reference price pieces field.Pieces))

abbrev pub quote_check : (ℕ → Measures) → ℕ → Offer → Checked
quote_check means reference offer =
    and (price_check offer.bid field.Price)
    (and (price_check offer.ask field.Ask)
    (and (cross_check offer)
    (and (beyond_check means reference offer.bid field.Price)
    (and (beyond_check means reference offer.ask field.Ask)
    (and (pieces_check means reference offer.bid offer.bid_pieces field.Pieces)
    (pieces_check means reference offer.ask offer.ask_pieces field.AskPieces))))))
