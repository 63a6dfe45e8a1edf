-- What a call answers where a `?` turns it back: the same refusal. Assumes nothing.
use Rattle.std.proofs.Common.{◌≡◌, Result, Err, ap, ◌∙◌}
use Rattle.std.specs.Result.{IsErrAnd}
use Rattle.std.proofs.lemmas.Result.{err_from_is_err_and}
use Rattle.rounds.specs.Refusals.{Fault, fault_of, refusal_fault, ◌or_else◌}
use Rattle.rounds.specs.declared.Refusal.{Refusal}

-- the answer is the refusal that came through
pub passed_on : {A : Type 0} (r : Result A Refusal) {e : Refusal} → IsErrAnd r (λ x. x ≡ e) → r ≡ Err e
passed_on r h = let p = err_from_is_err_and r h in p.1 ∙ ap Err p.2

-- and its fault
pub passed_fault : {A : Type 0} (r : Result A Refusal) {e : Refusal} → IsErrAnd r (λ x. x ≡ e) → fault_of r ≡ refusal_fault e
passed_fault r h = ap fault_of (passed_on r h)

-- the fault of two checks in turn, where the first has none
pub in_turn : {f g h : Fault} → Fault.none ≡ f → h ≡ g → h ≡ (f or_else g)
in_turn {g = g} e p = p ∙ ap (λ x. x or_else g) e
