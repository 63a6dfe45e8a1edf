-- Sides of a clockwise listing. Every point of a list lies right of the side from v to w, or on it.
-- A plug that lies left of the side, or on it, is not strictly inside the points' hull; one that lies strictly left is not in it. Assumes nothing.
use mathlib.Core.Path.{◌≡◌}
use mathlib.Core.List.{List, map}
use native.Mathlib.Omega.{arith}
use lib.IntN.{pos}
use lib.Signed.{◌≤ℤ◌, ◌<ℤ◌}
use Rattle.integers.proofs.Expr.{◌⊕◌, ◌⊖◌, ◌⊗◌, ⊝◌, #◌, ◌≼◌, ◌≺◌, ◌≐◌, ◌⟹◌, PtE, E}
use Rattle.integers.proofs.Lin.{lin}
use Rattle.integers.proofs.Cert.{cert, hyp, ◌⊞◌, ◌∵◌}
use Rattle.plane.specs.Points.{signed_area, outward_east, outward_north}
use Rattle.plane.specs.declared.Point.{Point}
use Rattle.plane.specs.Members.{All}
use Rattle.plane.specs.Vectors.{from, along, Supported, Balanced, Separated}
use Rattle.plane.specs.Polygons.{AllRight}
use Rattle.plane.proofs.Twins.{pt, fromᴱ, alongᴱ, signed_areaᴱ}
use Rattle.plane.proofs.Lists.{all_imp, all_map}
use Rattle.plane.proofs.Combos.{separated_not_balanced}

-- the twin of `dot_product`
abbrev pub dot_productᴱ : PtE → PtE → PtE → E
dot_productᴱ v w q = (w.0 ⊖ v.0) ⊗ (q.0 ⊖ v.0) ⊕ (w.1 ⊖ v.1) ⊗ (q.1 ⊖ v.1)

pub point_ext : {p q : Point} → p.east ≡ q.east → p.north ≡ q.north → p ≡ q
point_ext e f = λ i. record { east = e i; north = f i }

pub side_nonzero : (v w : Point) → (v ≡ w → ⊥) → (outward_east v w ≡ pos 0) × (outward_north v w ≡ pos 0) → ⊥
side_nonzero v w ne z =
    ne (point_ext (lin 0 2 (λ a b. b ⊖ a ≐ # 0 ⟹ a ≐ b) (omega arith) _ _ z.1) (lin 0 2 (λ a b. ⊝ (b ⊖ a) ≐ # 0 ⟹ a ≐ b) (omega arith) _ _ z.0))

-- a plug left of the side, or on it, has every point behind the outward direction
pub side_behind : {qs : List Point} (v w p : Point) → AllRight qs v w → pos 0 ≤ℤ signed_area v w p
    → All (λ u. along (outward_east v w) (outward_north v w) u ≤ℤ pos 0) (map (from 1 p) qs)
side_behind v w p h hp = all_map (from 1 p) (all_imp (λ q k. cert 4 0 (λ v w p q.
    signed_areaᴱ v w q ≼ # 0 ⟹ # 0 ≼ signed_areaᴱ v w p ⟹ alongᴱ (⊝ (w.1 ⊖ v.1)) (w.0 ⊖ v.0) (fromᴱ p q) ≼ # 0 ∵ hyp 0 ⊞ hyp 1) tt (pt v) (pt w) (pt p) (pt q) k hp) h)

pub side_supported : {qs : List Point} (v w p : Point) → (v ≡ w → ⊥) → AllRight qs v w → pos 0 ≤ℤ signed_area v w p → Supported (map (from 1 p) qs)
side_supported v w p ne h hp = record { a = outward_east v w; b = outward_north v w; nonzero = side_nonzero v w ne; behind = side_behind v w p h hp }

-- a plug strictly left of the side has every point strictly behind it
pub side_separated : {qs : List Point} (v w p : Point) → AllRight qs v w → pos 0 <ℤ signed_area v w p → Separated (map (from 1 p) qs)
side_separated v w p h hp =
    record {
      a = outward_east v w;
      b = outward_north v w;
      behind = all_map (from 1 p) (all_imp (λ q k. cert 4 0 (λ v w p q.
          signed_areaᴱ v w q ≼ # 0 ⟹ # 0 ≺ signed_areaᴱ v w p ⟹ alongᴱ (⊝ (w.1 ⊖ v.1)) (w.0 ⊖ v.0) (fromᴱ p q) ≺ # 0 ∵ hyp 0 ⊞ hyp 1) tt (pt v) (pt w) (pt p) (pt q) k hp) h);
    }

pub side_not_balanced : {qs : List Point} (v w p : Point) → AllRight qs v w → pos 0 <ℤ signed_area v w p → Balanced (map (from 1 p) qs) → ⊥
side_not_balanced v w p h hp = separated_not_balanced (side_separated v w p h hp)
