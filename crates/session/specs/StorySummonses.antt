-- What becomes of a summons.
use Rattle.std.specs.Prelude.{◌≡◌, ℕ, Bool, false, cond, ◌||◌, List, [], ◌∷◌, ◌==◌}
use Rattle.session.specs.Days.{State}
use Rattle.session.specs.Phases.{opener_of}
use Rattle.session.specs.Stories.{Call, Enter, Cancel, Quoting, Withdraw, Collect, Validate, Decline, Clock, Renew, Reply, Refused, Answered, Handed, Event}

abbrev pub is_handed : ℕ → Reply → Bool
is_handed ticket (Refused fault) = false
is_handed ticket (Answered a) = false
is_handed ticket (Handed summons) = summons == ticket

-- the summons of a ticket was handed over before
abbrev pub was_handed : ℕ → List Event → Bool
was_handed ticket [] = false
was_handed ticket (e ∷ es) = is_handed ticket e.reply || was_handed ticket es

-- an accepted validate and an accepted decline spend it, other calls leave it
abbrev pub spent_in : Call → ℕ → ℕ
spent_in (Enter e) held = held
spent_in (Cancel sender ticket) held = held
spent_in (Quoting o flagged) held = held
spent_in Withdraw held = held
spent_in Collect held = held
spent_in (Validate o flagged) held = 0
spent_in Decline held = 0
spent_in (Clock seconds) held = held
spent_in Renew held = held

-- collect hands over the summons of the open RFE the first time, else a blank
abbrev pub SummonsBy : Call → Reply → State → ℕ → ℕ → List Event → Type 0
SummonsBy c (Refused fault) s held kept es = kept ≡ held
SummonsBy c (Answered a) s held kept es = kept ≡ spent_in c held
SummonsBy c (Handed summons) s held kept es =
    (kept ≡ summons) × (summons ≡ cond (was_handed (opener_of s.phase) es) 0 (opener_of s.phase))

abbrev pub AllSummons : List Event → Type 0
AllSummons [] = Unit {0}
AllSummons (e ∷ es) = SummonsBy e.call e.reply e.before e.held e.kept es × AllSummons es
