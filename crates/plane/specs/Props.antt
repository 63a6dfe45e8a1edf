-- Facts of every element have one proof at most, if each element's has: for ghost fields.
use Rattle.std.specs.Prelude.{refl, List, [], ◌∷◌}
use mathlib.Core.Path.{ap₂}
use Rattle.plane.specs.Members.{All, ◌&◌}

pub All-prop : {A : Type 0} (P : A → Type 0) → ((x : A) → IsProp (P x)) → (xs : List A) → IsProp (All P xs)
All-prop P h [] All.none All.none = refl
All-prop P h (x ∷ xs) (p & ps) (q & qs) = ap₂ ◌&◌ (h x p q) (All-prop P h xs ps qs)
