-- The tests of each call, in their order: the first that fails is the refusal.
use Rattle.std.specs.Prelude.{ℕ, Bool, not, ◌&&◌, is_some, Ok, Err, Result, ◌==◌, nat_le}
use Rattle.figures.specs.Checks.{Checked, quote_check, sender_check}
pub use Rattle.figures.specs.Checks.{holds}
use Rattle.figures.specs.declared.offer.Offer.{Offer}
use Rattle.book.specs.Admits.{order_admitted, quote_admitted}
use Rattle.book.specs.Firsts.{find}
use Rattle.book.specs.Owned.{owned_order}
use Rattle.book.specs.declared.fault.BookFault.{BookFault}
use Rattle.book.specs.declared.fault.BookFault.TheVariants as book
use Rattle.book.specs.declared.found.Found.{Found}
use Rattle.session.specs.Days.{Day, State}
use Rattle.session.specs.Phases.{is_asked, is_dark, is_halted, opener_of, quote_of}
use Rattle.session.specs.declared.entry.Entry.{Entry}
use Rattle.session.specs.declared.fault.SessionFault.{SessionFault}
use Rattle.session.specs.declared.fault.SessionFault.TheVariants.{ShortList, Halted, Dark, Asking, NoQuote, Summons, Seconds, Book}

abbrev pub Passed : Type 0 → Type 0
Passed A = Result A SessionFault

-- a later test counts only where the earlier ones found nothing
abbrev pub then : {A B : Type 0} → Passed A → (A → Passed B) → Passed B
then (Ok a) later = later a
then (Err fault) later = Err fault

-- faults of the layers below come up whole
abbrev pub from_figures : Checked → Passed (Unit {0})
from_figures (Ok u) = Ok u
from_figures (Err fault) = Err (Book (book.Figures fault))

abbrev pub from_book : {A : Type 0} → Result A BookFault → Passed A
from_book (Ok a) = Ok a
from_book (Err fault) = Err (Book fault)

abbrev pub room_check : ℕ → Passed (Unit {0})
room_check places = holds (nat_le 129 places) ShortList

-- the order's ticket
abbrev pub enter_check : Day → State → ℕ → Entry → Passed ℕ
enter_check d s places e =
    then (room_check places) (λ _.
    then (from_figures (sender_check e.sender)) (λ _.
    then (holds (not (is_halted s.phase)) Halted) (λ _.
    then (holds (not (is_dark s.phase)) Dark) (λ _.
    from_book (order_admitted d.means d.reference e.price e.pieces s.table.rows s.count)))))

abbrev pub cancel_check : State → ℕ → ℕ → ℕ → Passed Found
cancel_check s places sender ticket = then (room_check places) (λ _. from_book (owned_order (find sender ticket s.table.rows)))

-- the quote's number
abbrev pub quote_test : Day → State → ℕ → Offer → Passed ℕ
quote_test d s places offer =
    then (room_check places) (λ _.
    then (holds (not (is_halted s.phase)) Halted) (λ _.
    then (holds (not (is_asked s.phase)) Asking) (λ _.
    from_book (quote_admitted d.means d.reference offer s.count))))

abbrev pub withdraw_check : State → ℕ → Passed (Unit {0})
withdraw_check s places = then (room_check places) (λ _. holds (is_some (quote_of s.phase)) NoQuote)

-- a summons is told by its RFE's opening ticket; a blank is 0, and no RFE has that
abbrev pub fits : State → ℕ → Bool
fits s summons = is_asked s.phase && summons == opener_of s.phase

abbrev pub validate_check : Day → State → ℕ → ℕ → Offer → Passed (Unit {0})
validate_check d s places summons offer =
    then (room_check places) (λ _.
    then (holds (fits s summons) Summons) (λ _.
    from_figures (quote_check d.means d.reference offer)))

-- the clock never goes back, and the day ends with second 86,400
abbrev pub may_be : State → ℕ → Bool
may_be s seconds = nat_le s.clock seconds && nat_le seconds 86400

abbrev pub clock_check : State → ℕ → ℕ → Passed (Unit {0})
clock_check s places seconds = then (room_check places) (λ _. holds (may_be s seconds) Seconds)
