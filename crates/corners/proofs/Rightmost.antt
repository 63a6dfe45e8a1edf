-- The corner of a box that is furthest right of the way from f to t is the lowest one along the direction to the left of it. Assumes nothing.
use mathlib.Core.Path.{◌≡◌, refl}
use Prim.Native.Nat.{ℕ}
use lib.Dec.{ltb→lt}
use lib.IntN.{ℤ, pos, negsuc, ◌-ℤ◌}
use lib.Signed.{◌≤ℤ◌, ◌<ℤ◌}
use native.Mathlib.Omega.{arith}
use Rattle.integers.proofs.Expr.{◌⊖◌, ◌⊗◌, #◌, ◌≼◌, ◌⟹◌}
use Rattle.integers.proofs.Cert.{cert, hyp, ◌∵◌}
use Rattle.plane.specs.declared.Point.{Point}
use Rattle.plane.proofs.Twins.{signed_areaᴱ, pt, fromᴱ, alongᴱ}
use Rattle.rounds.specs.Boxes.{corner_of}
use Rattle.rounds.specs.declared.Corner.TheVariants.{SouthWest, SouthEast, NorthEast, NorthWest}
use Rattle.rounds.proofs.Corners.{lowest, low, corner_within}
use Rattle.corners.specs.Corners.{Rightmost}

not_less : (n : ℕ) → pos n <ℤ pos 0 → ⊥
not_less n h = let l = ltb→lt n 0 h.lt in omega arith

-- the lowest corner along (a, b), by the signs of a and b
pub lowest_south_west : (a b : ℤ) → pos 0 ≤ℤ a → pos 0 ≤ℤ b → lowest a b ≡ SouthWest
lowest_south_west (pos a) (pos b) h k = refl
lowest_south_west (pos a) (negsuc b) h k = absurd k.le
lowest_south_west (negsuc a) b h k = absurd h.le

pub lowest_north_west : (a b : ℤ) → pos 0 ≤ℤ a → b <ℤ pos 0 → lowest a b ≡ NorthWest
lowest_north_west (pos a) (pos b) h k = absurd (not_less b k)
lowest_north_west (pos a) (negsuc b) h k = refl
lowest_north_west (negsuc a) b h k = absurd h.le

pub lowest_south_east : (a b : ℤ) → a <ℤ pos 0 → pos 0 ≤ℤ b → lowest a b ≡ SouthEast
lowest_south_east (pos a) b h k = absurd (not_less a h)
lowest_south_east (negsuc a) (pos b) h k = refl
lowest_south_east (negsuc a) (negsuc b) h k = absurd k.le

pub lowest_north_east : (a b : ℤ) → a <ℤ pos 0 → b <ℤ pos 0 → lowest a b ≡ NorthEast
lowest_north_east (pos a) b h k = absurd (not_less a h)
lowest_north_east (negsuc a) (pos b) h k = absurd (not_less b k)
lowest_north_east (negsuc a) (negsuc b) h k = refl

pub lowest_rightmost : (f t : Point) → Rightmost f t (lowest (f.north -ℤ t.north) (t.east -ℤ f.east))
lowest_rightmost f t =
    record {
      least = λ b o other.
          let a = f.north -ℤ t.north in
          let c = t.east -ℤ f.east in
          cert 4 0 (λ f t u v.
          # 1 ⊗ alongᴱ (f.1 ⊖ t.1) (t.0 ⊖ f.0) (fromᴱ f u) ≼ alongᴱ (f.1 ⊖ t.1) (t.0 ⊖ f.0) (fromᴱ f v) ⟹ signed_areaᴱ f t u ≼ signed_areaᴱ f t v
          ∵ hyp 0) tt (pt f) (pt t) (pt (corner_of (lowest a c) b)) (pt (corner_of other b)) (low 1 a c f b (corner_of other b) (corner_within other b o));
    }
