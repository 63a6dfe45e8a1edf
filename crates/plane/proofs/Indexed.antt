-- Listings by index, as loops over slices know them: what holds at every index holds around the listing. (Lists has the same for all elements.) Assumes nothing.
use Prim.Native.Nat.{ℕ, zero, suc, ◌<◌}
use mathlib.Core.Path.{◌≡◌}
use mathlib.Core.List.{List, [], ◌∷◌}
use native.Mathlib.Omega.{arith}
use lib.IntN.{pos}
use lib.Signed.{◌<ℤ◌}
use lib.ListN.{length, get_or}
use Rattle.plane.specs.Points.{signed_area}
use Rattle.plane.specs.declared.Point.{Point}
use Rattle.plane.specs.Members.{◌∈◌}
use Rattle.plane.specs.Polygons.{Distinct, Steps, Around}
use Rattle.plane.proofs.Lists.{index_of_in}
use Rattle.plane.proofs.PolygonFacts.{Turns}

-- from each vertex to the next, and from the last to f
pub steps_by_index : (R : Point → Point → Type 0) (d f v : Point) (vs : List Point)
    → ((i : ℕ) → i < length vs → R (get_or (v ∷ vs) i d) (get_or (v ∷ vs) (suc i) d)) → R (get_or (v ∷ vs) (length vs) d) f → Steps R f (v ∷ vs)
steps_by_index R d f v [] g h = h
steps_by_index R d f v (w ∷ vs) g h = (g 0 (omega arith), steps_by_index R d f w vs (λ i k. g (suc i) (omega arith)) h)

pub around_by_index : (R : Point → Point → Type 0) (d v : Point) (vs : List Point)
    → ((i : ℕ) → i < length vs → R (get_or (v ∷ vs) i d) (get_or (v ∷ vs) (suc i) d)) → R (get_or (v ∷ vs) (length vs) d) v → Around R (v ∷ vs)
around_by_index R d v vs g h = steps_by_index R d v v vs g h

pub index_of_steps : (R : Point → Point → Type 0) (d f v : Point) (vs : List Point) → Steps R f (v ∷ vs) → (i : ℕ) → i < length vs → R (get_or (v ∷ vs) i d) (get_or (v ∷ vs) (suc i) d)
index_of_steps R d f v [] s i h = absurd (omega arith)
index_of_steps R d f v (w ∷ vs) s zero h = s.0
index_of_steps R d f v (w ∷ vs) s (suc i) h = index_of_steps R d f w vs s.1 i (omega arith)

pub last_of_steps : (R : Point → Point → Type 0) (d f v : Point) (vs : List Point) → Steps R f (v ∷ vs) → R (get_or (v ∷ vs) (length vs) d) f
last_of_steps R d f v [] s = s
last_of_steps R d f v (w ∷ vs) s = last_of_steps R d f w vs s.1

-- three in a row, the two before the first, and the last before the first two
pub turns_by_index : (d f g v w : Point) (vs : List Point)
    → ((i : ℕ) → i < length vs → signed_area (get_or (v ∷ w ∷ vs) i d) (get_or (v ∷ w ∷ vs) (suc i) d) (get_or (v ∷ w ∷ vs) (suc (suc i)) d) <ℤ pos 0)
    → signed_area (get_or (v ∷ w ∷ vs) (length vs) d) (get_or (v ∷ w ∷ vs) (suc (length vs)) d) f <ℤ pos 0 → signed_area (get_or (v ∷ w ∷ vs) (suc (length vs)) d) f g <ℤ pos 0 → Turns f g (v ∷ w ∷ vs)
turns_by_index d f g v w [] t h k = (h, k)
turns_by_index d f g v w (x ∷ vs) t h k = (t 0 (omega arith), turns_by_index d f g w x vs (λ i j. t (suc i) (omega arith)) h k)

-- distinct at different indices
pub distinct_by_index : (d : Point) (l : List Point) → ((i j : ℕ) → i < j → j < length l → get_or l i d ≡ get_or l j d → ⊥) → Distinct l
distinct_by_index d [] f = tt
distinct_by_index d (x ∷ l) f = (head, distinct_by_index d l (λ i j h k. f (suc i) (suc j) (omega arith) (omega arith)))
  where
    head : x ∈ l → ⊥
    head m = let r = index_of_in d m in f 0 (suc r.0) (omega arith) (omega (arith, r.1)) r.2
