-- The outline of some points: what a hull's making promises of its listing, from which the polygon follows, and with which a verdict goes on. Assumes nothing.
use mathlib.Core.Path.{◌≡◌}
use mathlib.Core.List.{List, [], ◌∷◌}
use Rattle.plane.specs.declared.Point.{Point}
use Rattle.plane.specs.Members.{All, ◌∈◌}
use Rattle.plane.specs.Polygons.{Distinct, Clockwise, Polygon}
use Rattle.plane.proofs.PolygonFacts.{TurnsRight, Between, polygon, polygon₁, polygon₂}

pub data Outline (qs : List Point) : List Point → Type 0 where
  -- all points are v
  one_point : {v : Point} → v ∈ qs → All (λ q. q ≡ v) qs → Outline qs (v ∷ [])
  -- all points are in line, from v to w
  in_line : {v w : Point} → (v ≡ w → ⊥) → v ∈ qs → w ∈ qs → All (Between v w) qs → Outline qs (v ∷ w ∷ [])
  -- three vertices or more
  area : {f a b : Point} {vs : List Point} → All (λ v. v ∈ qs) (f ∷ a ∷ b ∷ vs) → Distinct (f ∷ a ∷ b ∷ vs) → Clockwise qs (f ∷ a ∷ b ∷ vs) → TurnsRight (f ∷ a ∷ b ∷ vs)
      → Outline qs (f ∷ a ∷ b ∷ vs)

pub outline_polygon : {qs vs : List Point} → Outline qs vs → Polygon qs vs
outline_polygon (one_point {v = v} m h) = polygon₁ v m h
outline_polygon (in_line {v = v} {w = w} ne mv mw h) = polygon₂ v w ne mv mw h
outline_polygon (area {f = f} {a = a} {b = b} {vs = vs} m d s t) = polygon f a b vs m d s t
