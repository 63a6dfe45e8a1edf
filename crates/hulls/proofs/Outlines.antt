-- A closed listing of keys is the polygon of the keys' points. Assumes nothing.
use mathlib.Core.Path.{◌≡◌, refl, sym, ◌∙◌}
use mathlib.Core.List.{List, [], ◌∷◌, map}
use Prim.Native.Nat.{ℕ, suc, ◌≤◌, ◌<◌}
use native.Mathlib.Omega.{arith}
use lib.IntN.{pos}
use lib.Signed.{◌<ℤ◌}
use lib.ListN.{length, get_or, length-map, get_or-map}
use Rattle.integers.proofs.Order.{≤-antisym}
use Rattle.plane.specs.Points.{signed_area}
use Rattle.plane.specs.declared.Point.{Point}
use Rattle.plane.specs.Members.{All, ◌∈◌}
use Rattle.plane.specs.Polygons.{Distinct, AllRight, Clockwise}
use Rattle.plane.proofs.Lists.{all_map, all_by_index, in_map, in_by_index, index_of_in}
use Rattle.plane.proofs.Indexed.{around_by_index, turns_by_index, distinct_by_index}
use Rattle.plane.proofs.PolygonFacts.{TurnsRight, Between}
use Rattle.plane.proofs.Outline.{Outline, one_point, in_line, area}
use Rattle.turns.specs.Keys.{point_of}
use Rattle.turns.proofs.Order.{point_injective}
use Rattle.orders.specs.Order.{get, EachAmong}
use Rattle.chains.specs.Chains.{turn}
use Rattle.chains.proofs.Turning.{turn_back, between}
use Rattle.hulls.proofs.Listing.{Next, on, round, Closed}

-- ---- the points of a list of keys, by index

pub point_in : (l : List ℕ) (i : ℕ) → i < length l → point_of (get l i) ∈ map point_of l
point_in l i h = in_map point_of (in_by_index 0 l i h)

pub all_points : {P : Point → Type 0} (l : List ℕ) → ((i : ℕ) → i < length l → P (point_of (get l i))) → All P (map point_of l)
all_points {P} l f = all_map point_of (all_by_index {P = λ k. P (point_of k)} 0 l f)

pub point_at : (l : List ℕ) (i : ℕ) → get_or (map point_of l) i (point_of 0) ≡ point_of (get l i)
point_at l i = get_or-map point_of l i 0

pub from_point : {p : Point} (l : List ℕ) → p ∈ map point_of l → (i : ℕ) × (i < length l) × (p ≡ point_of (get l i))
from_point l m =
    let r = index_of_in (point_of 0) m in
    (r.0, omega (arith, r.1, length-map l point_of), r.2 ∙ point_at l r.0)

-- ---- a closed listing is an outline

module _ (keys vs : List ℕ) (c : Closed (get keys) (length keys) (get vs) (length vs)) where
  vertex_in : (j : ℕ) → j < length vs → point_of (get vs j) ∈ map point_of keys
  vertex_in j h = let r = c.from.find j h in rw r.2 (point_in keys r.0 r.1)

  apart : Distinct (map point_of vs)
  apart =
      distinct_by_index (point_of 0) (map point_of vs)
      (λ i j h k e. c.apart i j h (omega (arith, length-map vs point_of)) (point_injective (get vs i) (get vs j) (sym (point_at vs i) ∙ e ∙ point_at vs j)))

  side : (j j' : ℕ) → Next (length vs) j j' → AllRight (map point_of keys) (get_or (map point_of vs) j (point_of 0)) (get_or (map point_of vs) j' (point_of 0))
  unfolding turn
  side j j' n = rw (point_at vs j, point_at vs j') (all_points keys (λ i h. c.right i j j' h n))

  bend : (x y z : ℕ) → 3 ≤ length vs → Next (length vs) x y → Next (length vs) y z
      → signed_area (get_or (map point_of vs) x (point_of 0)) (get_or (map point_of vs) y (point_of 0)) (get_or (map point_of vs) z (point_of 0)) <ℤ pos 0
  unfolding turn
  bend x y z l n o = rw (point_at vs x, point_at vs y, point_at vs z) (c.bends x y z l n o)

pub closed_outline : (keys vs : List ℕ) → Closed (get keys) (length keys) (get vs) (length vs) → Outline (map point_of keys) (map point_of vs)
closed_outline keys [] c = absurd (omega (arith, c.some))
closed_outline keys (x ∷ []) c = one_point (vertex_in keys (x ∷ []) c 0 (omega arith)) (all_points keys (λ i h. rw (c.one refl i h)))
closed_outline keys (x ∷ y ∷ []) c =
    in_line (λ e. c.apart 0 1 (omega arith) (omega arith) (point_injective x y e)) (vertex_in keys (x ∷ y ∷ []) c 0 (omega arith)) (vertex_in keys (x ∷ y ∷ []) c 1 (omega arith))
    (all_points keys between_ends)
  where
    below : {k : ℕ} → x ≤ k → k ≤ y → x < y
    below h k = let ne : x ≡ y → ⊥ = c.apart 0 1 (omega arith) (omega arith) in omega arith

    between_ends : (i : ℕ) → i < length keys → Between (point_of x) (point_of y) (point_of (get keys i))
    between_ends i h =
        between (below (c.least i h) (c.most refl i h)) (c.least i h) (c.most refl i h)
        (≤-antisym (c.right i 0 1 h (on (omega arith) refl)) (turn_back x y (get keys i) (c.right i 1 0 h (round refl refl))))
closed_outline keys (x ∷ y ∷ z ∷ vs) c = area members (apart keys l c) sides turns
  where
    l : List ℕ
    l = x ∷ y ∷ z ∷ vs

    n : length (map point_of vs) ≡ length vs
    n = length-map vs point_of

    members : All (λ v. v ∈ map point_of keys) (map point_of l)
    members = all_points l (λ j h. vertex_in keys l c j h)

    sides : Clockwise (map point_of keys) (map point_of l)
    sides =
        around_by_index (AllRight (map point_of keys)) (point_of 0) (point_of x) (map point_of (y ∷ z ∷ vs))
        (λ i h. side keys l c i (suc i) (on (omega (arith, n)) refl))
        (side keys l c (length (map point_of (y ∷ z ∷ vs))) 0 (round (omega (arith, n)) refl))

    turns : TurnsRight (map point_of l)
    turns =
        turns_by_index (point_of 0) (point_of x) (point_of y) (point_of x) (point_of y) (map point_of (z ∷ vs))
        (λ i h. bend keys l c i (suc i) (suc (suc i)) (omega arith) (on (omega (arith, n)) refl) (on (omega (arith, n)) refl))
        (bend keys l c (length (map point_of (z ∷ vs))) (suc (length (map point_of (z ∷ vs)))) 0 (omega arith) (on (omega (arith, n)) refl) (round (omega (arith, n)) refl))
        (bend keys l c (suc (length (map point_of (z ∷ vs)))) 0 1 (omega arith) (round (omega (arith, n)) refl) (on (omega arith) refl))

-- each of the one keys is among the others, so each of their points is
pub within_points : (l m : List ℕ) → EachAmong (get l) (length l) (get m) (length m) → (p : Point) → p ∈ map point_of l → p ∈ map point_of m
within_points l m w p h =
    let r = from_point l h in
    let s = w.find r.0 r.1 in
    rw (r.2, s.2) (point_in m s.0 s.1)
