-- A decline with 129 places is never refused.
use Rattle.std.proofs.Common.{◌≡◌, ℕ, ◌≤◌, Bool, true, false, is_ok, sym, refl, subst}
use Rattle.std.proofs.lemmas.Bool.{le-leb}
use Rattle.session.specs.Calls.{declined, declining, done, guarded}
use Rattle.session.specs.Checks.{fits, holds}
use Rattle.session.specs.Days.{Day, State}
use Rattle.session.specs.declared.fault.SessionFault.TheVariants.{ShortList}

declining_ok : (d : Day) (s : State) (v : Bool) → is_ok (declining d s v).result ≡ true
unfolding done
declining_ok d s true = refl
declining_ok d s false = refl

pub declined_ok : (d : Day) (s : State) (places summons : ℕ) → 129 ≤ places → is_ok (declined d s places summons).result ≡ true
declined_ok d s places summons h =
    subst (λ v. is_ok (guarded s (holds v ShortList) (λ _. declining d s (fits s summons))).result ≡ true) (sym (le-leb 129 places h)) (declining_ok d s (fits s summons))
