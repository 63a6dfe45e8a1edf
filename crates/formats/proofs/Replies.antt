-- Replies: a result stands behind no fault. Assumes nothing.
use mathlib.Core.Path.{◌≡◌, refl}
use Rattle.rounds.specs.Refusals.{Fault, none, fault}
use Rattle.rounds.specs.Replies.{result, reply_under}

pub result_none : {A : Type 0} (f : Fault) {a b : A} → result a ≡ reply_under f b → (f ≡ none) × (a ≡ b)
result_none none e = (refl, (cc))
result_none (fault c p) e = absurd (cc)
