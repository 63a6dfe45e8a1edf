-- Every element of a list, and what stands in it. Definitions only.
use Rattle.std.specs.Prelude.{◌≡◌, List, [], ◌∷◌}

-- every element has the property: `hx & hy & none` for a list of two
infixr 35 ◌&◌
pub data All {A : Type 0} (P : A → Type 0) : List A → Type 0 where
  none : All P []
  ◌&◌ : {x : A} {l : List A} → P x → All P l → All P (x ∷ l)

-- x stands in the list
infix 40 ◌∈◌
pub data ◌∈◌ {A : Type 0} (x : A) : List A → Type 0 where
  here : {y : A} {l : List A} → x ≡ y → x ∈ (y ∷ l)
  there : {y : A} {l : List A} → x ∈ l → x ∈ (y ∷ l)
