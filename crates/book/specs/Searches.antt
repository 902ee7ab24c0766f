-- What a search is told by closures: which orders pass, and which of two goes before the other. Each answers what a
-- definition does, at every order.
use Rattle.std.specs.Prelude.{◌≡◌, Bool}
use Rattle.std.specs.Fn.{AnyResult, Shared}
use denote.Ref.{Bor}
use Rattle.book.specs.Proposals.{Order}

abbrev pub Tests : {F : Type 0} → Shared F (Bor Order × Unit {0}) Bool → F → (Order → Bool) → Type 0
Tests calls f ok = (o : Bor Order) → AnyResult calls f (o, tt) (λ r. r ≡ ok o.now)

abbrev pub Compares : {F : Type 0} → Shared F (Bor Order × (Bor Order × Unit {0})) Bool → F → (Order → Order → Bool) → Type 0
Compares calls f ahead = (a b : Bor Order) → AnyResult calls f (a, (b, tt)) (λ r. r ≡ ahead a.now b.now)
