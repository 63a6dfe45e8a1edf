-- The vertices of a polygon by their indices, as a search over a slice of keys knows them. Assumes nothing.
use Prim.Native.Nat.{ℕ, zero, suc, ◌+◌, ◌-◌, ◌≤◌, ◌<◌}
use mathlib.Core.Path.{◌≡◌, sym, ◌∙◌, subst, subst₂}
use mathlib.Core.List.{List, [], ◌∷◌, map}
use native.Mathlib.Omega.{arith}
use native.Mathlib.Numerals.{add-one}
use lib.IntN.{pos}
use lib.Signed.{◌≤ℤ◌, ◌<ℤ◌}
use lib.ListN.{length, get_or, length-map, get_or-map}
use Rattle.integers.proofs.Expr.{#◌, ◌≐◌, ◌≼◌, ◌⟹◌}
use Rattle.integers.proofs.Cert.{cert, hyp, ◌∵◌}
use Rattle.integers.proofs.Ring.{ring}
use Rattle.integers.proofs.Order.{≡→≤, ≤-antisym, not-≤}
use Rattle.plane.specs.Points.{signed_area}
use Rattle.plane.specs.declared.Point.{Point}
use Rattle.plane.specs.Members.{All, ◌∈◌}
use Rattle.plane.specs.Polygons.{AllRight, Extreme, Distinct, Polygon}
use Rattle.plane.proofs.Twins.{signed_areaᴱ, pt}
use Rattle.plane.proofs.Lists.{first, all_at, all_imp, index_of_all, in_by_index}
use Rattle.plane.proofs.PolygonFacts.{Between, between_swap}
use Rattle.plane.proofs.Outline.{Outline, one_point, in_line, area}
use Rattle.plane.proofs.Reading.{polygon_outline, not_in_line}
use Rattle.plane.proofs.Indexed.{index_of_steps, last_of_steps}
use Rattle.turns.specs.Keys.{point_of}
use Rattle.locations.specs.Search.{vertex_at}

-- the side from a to b, taken the other way
pub turned : (a b c : Point) → signed_area a b c ≤ℤ pos 0 → pos 0 ≤ℤ signed_area b a c
turned a b c = cert 3 0 (λ a b c. signed_areaᴱ a b c ≼ # 0 ⟹ # 0 ≼ signed_areaᴱ b a c ∵ hyp 0) tt (pt a) (pt b) (pt c)

-- the signed area from the second point on
pub cyclic : (a b c : Point) → signed_area b c a ≡ signed_area a b c
cyclic a b c = ring 3 0 (λ a b c. signed_areaᴱ b c a ≐ signed_areaᴱ a b c) tt (pt a) (pt b) (pt c)

-- ---- of any listing

-- no point stands at two places
distinct_at : (d : Point) (l : List Point) → Distinct l → (i j : ℕ) → i < j → j < length l → get_or l i d ≡ get_or l j d → ⊥
distinct_at d [] n i j h k e = absurd (omega arith)
distinct_at d (x ∷ l) n i zero h k e = absurd (omega arith)
distinct_at d (x ∷ l) n zero (suc j) h k e = n.0 (subst (λ y. y ∈ l) (sym e) (in_by_index d l j (omega arith)))
distinct_at d (x ∷ l) n (suc i) (suc j) h k e = distinct_at d l n.1 i j (omega arith) (omega arith) e

-- two ends, with all points between them: every point is on the line, either way
pub line_right : {qs : List Point} (v w : Point) → All (Between v w) qs → AllRight qs v w
line_right v w h = all_imp (λ q b. ≡→≤ b.in_line) h

-- every point lies right of each side or on it
side_at : {qs vs : List Point} (d : Point) → Outline qs vs → (i : ℕ) → suc i < length vs → AllRight qs (get_or vs i d) (get_or vs (suc i) d)
side_at d (one_point m h) i k = absurd (omega arith)
side_at d (in_line {v = v} {w = w} ne mv mw h) zero k = line_right v w h
side_at d (in_line ne mv mw h) (suc i) k = absurd (omega arith)
side_at {qs} d (area {f = f} {a = a} {b = b} {vs = vs} m n s t) i k = index_of_steps (AllRight qs) d f f (a ∷ b ∷ vs) s i (omega arith)

last_at : {qs vs : List Point} (d : Point) → Outline qs vs → (i : ℕ) → 1 ≤ i → suc i ≡ length vs → AllRight qs (get_or vs i d) (get_or vs 0 d)
last_at d (one_point m h) i l k = absurd (omega arith)
last_at d (in_line {v = v} {w = w} ne mv mw h) i l k = let e : i ≡ 1 = omega arith in rw e (line_right w v (all_imp (λ q b. between_swap b) h))
last_at {qs} d (area {f = f} {a = a} {b = b} {vs = vs} m n s t) i l k =
    let e : i ≡ length (a ∷ b ∷ vs) = omega arith in
    rw e (last_of_steps (AllRight qs) d f f (a ∷ b ∷ vs) s)

-- one vertex: all points are it; two: all points are between them
pub all_one : {qs : List Point} {v : Point} → Polygon qs (v ∷ []) → All (λ q. q ≡ v) qs
all_one {qs} {v} P = go (polygon_outline v (first P.only_extreme).listed P)
  where
    go : Outline qs (v ∷ []) → All (λ q. q ≡ v) qs
    go (one_point m h) = h

pub all_between : {qs : List Point} {v w : Point} → Polygon qs (v ∷ w ∷ []) → All (Between v w) qs
all_between {qs} {v} {w} P = go (polygon_outline v (first P.only_extreme).listed P)
  where
    go : Outline qs (v ∷ w ∷ []) → All (Between v w) qs
    go (in_line ne mv mw h) = h

-- ---- of a slice of keys

module _ {qs : List Point} (ks : List ℕ) (P : Polygon qs (map point_of ks)) where
  at : (i : ℕ) → get_or (map point_of ks) i (point_of 0) ≡ vertex_at ks i
  at i = get_or-map point_of ks i 0

  pub extreme : (i : ℕ) → i < length ks → Extreme qs (vertex_at ks i)
  extreme i h = subst (Extreme qs) (at i) (index_of_all (point_of 0) P.only_extreme i (simp length-map (omega arith)))

  -- a vertex is one of the points
  pub listed : (i : ℕ) → i < length ks → vertex_at ks i ∈ qs
  listed i h = (extreme i h).listed

  pub apart : (i j : ℕ) → i < j → j < length ks → vertex_at ks i ≡ vertex_at ks j → ⊥
  apart i j h k e = distinct_at (point_of 0) (map point_of ks) P.once_each i j h (simp length-map (omega arith)) (at i ∙ e ∙ sym (at j))

  outline : 1 ≤ length ks → Outline qs (map point_of ks)
  outline h = polygon_outline (vertex_at ks 0) (listed 0 (omega arith)) P

  -- every point lies right of each side or on it
  pub side : (i : ℕ) → i + 1 < length ks → AllRight qs (vertex_at ks i) (vertex_at ks (i + 1))
  side i h =
      rw (add-one i)
      (subst₂ (λ v w. AllRight qs v w) (at i) (at (suc i)) (side_at (point_of 0) (outline (omega arith)) i (simp length-map (omega arith))))

  pub last_side : 2 ≤ length ks → AllRight qs (vertex_at ks (length ks - 1)) (vertex_at ks 0)
  last_side h =
      subst₂ (λ v w. AllRight qs v w) (at (length ks - 1)) (at 0)
      (last_at (point_of 0) (outline (omega arith)) (length ks - 1) (omega arith) (simp length-map (omega arith)))

  -- no three are in line: a vertex lies strictly right of the side of two others
  strictly : (i j k : ℕ) → i < length ks → j < length ks → k < length ks
      → (vertex_at ks i ≡ vertex_at ks j → ⊥) → (vertex_at ks j ≡ vertex_at ks k → ⊥) → (vertex_at ks i ≡ vertex_at ks k → ⊥)
      → AllRight qs (vertex_at ks i) (vertex_at ks j) → signed_area (vertex_at ks i) (vertex_at ks j) (vertex_at ks k) <ℤ pos 0
  strictly i j k hi hj hk nij njk nik s =
      not-≤ (λ z. not_in_line (vertex_at ks i) (vertex_at ks j) (vertex_at ks k) (extreme i hi) (extreme j hj) (extreme k hk) nij njk nik (≤-antisym (all_at s (listed k hk)) z))

  -- the first vertex, of a side that does not meet it
  pub first_strict : (i : ℕ) → 1 ≤ i → i + 1 < length ks → signed_area (vertex_at ks i) (vertex_at ks (i + 1)) (vertex_at ks 0) <ℤ pos 0
  first_strict i l h =
      strictly i (i + 1) 0 (omega arith) h (omega arith) (apart i (i + 1) (omega arith) h)
      (λ e. apart 0 (i + 1) (omega arith) h (sym e)) (λ e. apart 0 i (omega arith) (omega arith) (sym e)) (side i h)

  -- a vertex, of the first side, and of the last
  pub strict_of_first : (i : ℕ) → 2 ≤ i → i < length ks → signed_area (vertex_at ks 0) (vertex_at ks 1) (vertex_at ks i) <ℤ pos 0
  strict_of_first i l h =
      strictly 0 1 i (omega arith) (omega arith) h (apart 0 1 (omega arith) (omega arith)) (apart 1 i (omega arith) h) (apart 0 i (omega arith) h) (side 0 (omega arith))

  pub strict_of_last : (i : ℕ) → 1 ≤ i → i + 1 < length ks → signed_area (vertex_at ks (length ks - 1)) (vertex_at ks 0) (vertex_at ks i) <ℤ pos 0
  strict_of_last i l h =
      strictly (length ks - 1) 0 i (omega arith) (omega arith) (omega arith)
      (λ e. apart 0 (length ks - 1) (omega arith) (omega arith) (sym e)) (apart 0 i (omega arith) (omega arith))
      (λ e. apart i (length ks - 1) (omega arith) (omega arith) (sym e)) (last_side (omega arith))

-- a side of the polygon of the keys, whatever the points: its ends are apart, and every point lies right of it or on it
pub record Side (ks : List ℕ) (v w : Point) : Type 0 where
  pub ends : (qs : List Point) → Polygon qs (map point_of ks) → v ≡ w → ⊥
  pub right : (qs : List Point) → Polygon qs (map point_of ks) → AllRight qs v w

pub side_next : (ks : List ℕ) (i : ℕ) → i + 1 < length ks → Side ks (vertex_at ks i) (vertex_at ks (i + 1))
side_next ks i h = record { ends = λ qs P. apart ks P i (i + 1) (omega arith) h; right = λ qs P. side ks P i h }

pub side_closing : (ks : List ℕ) → 2 ≤ length ks → Side ks (vertex_at ks (length ks - 1)) (vertex_at ks 0)
side_closing ks h =
    record { ends = λ qs P e. apart ks P 0 (length ks - 1) (omega arith) (omega arith) (sym e); right = λ qs P. last_side ks P h }
