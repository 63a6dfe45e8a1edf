-- The first ray of a cone: no point is right of it, and none is ahead of the direction square to it. Assumes nothing.
use mathlib.Core.Path.{◌≡◌, sym, subst}
use mathlib.Core.List.{List, map}
use native.Mathlib.Omega.{arith}
use lib.IntN.{pos}
use lib.Signed.{◌≤ℤ◌, ◌<ℤ◌}
use Rattle.integers.proofs.Expr.{#◌, ◌≼◌, ◌≺◌, ◌≐◌, ◌⟹◌, bot}
use Rattle.integers.proofs.Lin.{lin}
use Rattle.integers.proofs.Cert.{cert, hyp, num, ◌∵◌}
use Rattle.integers.proofs.Order.{≡→≤}
use Rattle.plane.specs.Points.{signed_area, dot_product, outward_east, outward_north}
use Rattle.plane.specs.declared.Point.{Point}
use Rattle.plane.specs.Members.{All}
use Rattle.plane.specs.Vectors.{from, along, Supported}
use Rattle.plane.proofs.Lists.{all_imp, all_map}
use Rattle.plane.proofs.Twins.{signed_areaᴱ, pt, fromᴱ, alongᴱ}
use Rattle.plane.proofs.Sides.{dot_productᴱ, side_nonzero, side_behind}
use Rattle.rounds.specs.declared.Box.{Box}
use Rattle.cones.specs.Cones.{corner_point, AllOnRay, AllOnLine, AllInWedge, AllInHalf}
use Rattle.cones.specs.declared.CornerKey.{CornerKey}
use Rattle.cones.proofs.Turns.{apart_a, apart_opposite}

-- ---- the first ray of a cone: no point is right of it

pub record FirstRay (qs : List Point) (p a : Point) : Type 0 where
  pub apart : pos 0 <ℤ dot_product p a a
  pub left : All (λ q. pos 0 ≤ℤ signed_area p a q) qs

module _ {bs : List Box} {qs : List Point} (p : Point) {a : CornerKey} where
  pub ray_first : AllOnRay bs qs p a → FirstRay qs p (corner_point a)
  ray_first r = record { apart = r.apart; left = all_imp (λ q e. ≡→≤ (sym e)) r.in_line }

  module _ {b : CornerKey} where
    pub line_first : AllOnLine bs qs p a b → FirstRay qs p (corner_point a)
    line_first r = record { apart = apart_opposite p (corner_point a) (corner_point b) r.opposite; left = all_imp (λ q e. ≡→≤ (sym e)) r.in_line }

    pub wedge_first : AllInWedge bs qs p a b → FirstRay qs p (corner_point a)
    wedge_first r = record { apart = apart_a p (corner_point a) (corner_point b) r.wide; left = r.from_a }

    pub half_first : AllInHalf bs qs p a b → FirstRay qs p (corner_point a)
    half_first r = record { apart = apart_opposite p (corner_point a) (corner_point b) r.opposite; left = r.from_a }

-- no point is ahead of a direction square to it
module _ {qs : List Point} (p a : Point) (r : FirstRay qs p a) where
  pub square_nonzero : (outward_east a p ≡ pos 0) × (outward_north a p ≡ pos 0) → ⊥
  square_nonzero =
      side_nonzero a p (λ e. cert 1 0 (λ p. # 0 ≺ dot_productᴱ p p p ⟹ bot ∵ hyp 0) tt (pt p) (subst (λ x. pos 0 <ℤ dot_product p x x) e r.apart))

  pub square_behind : All (λ u. along (outward_east a p) (outward_north a p) u ≤ℤ pos 0) (map (from 1 p) qs)
  square_behind =
      side_behind a p p
      (all_imp (λ q k. cert 3 0 (λ p a q. # 0 ≼ signed_areaᴱ p a q ⟹ signed_areaᴱ a p q ≼ # 0 ∵ hyp 0) tt (pt p) (pt a) (pt q) k) r.left)
      (cert 2 0 (λ p a. # 0 ≼ signed_areaᴱ a p p ∵ num 0) tt (pt p) (pt a))

  pub square_supported : Supported (map (from 1 p) qs)
  square_supported = record { a = outward_east a p; b = outward_north a p; nonzero = square_nonzero; behind = square_behind }

-- ---- every point is the plug: straight east

module _ {qs : List Point} (p : Point) (h : All (λ q. q ≡ p) qs) where
  pub east_nonzero : (pos 1 ≡ pos 0) × (pos 0 ≡ pos 0) → ⊥
  east_nonzero z = lin 0 0 (# 1 ≐ # 0 ⟹ bot) (omega arith) z.0

  pub east_behind : All (λ u. along (pos 1) (pos 0) u ≤ℤ pos 0) (map (from 1 p) qs)
  east_behind =
      all_map (from 1 p) (all_imp (λ q e. subst (λ x. along (pos 1) (pos 0) (from 1 p x) ≤ℤ pos 0) (sym e)
      (cert 1 0 (λ p. alongᴱ (# 1) (# 0) (fromᴱ p p) ≼ # 0 ∵ num 0) tt (pt p))) h)

  pub east_supported : Supported (map (from 1 p) qs)
  east_supported = record { a = pos 1; b = pos 0; nonzero = east_nonzero; behind = east_behind }
