-- A line through the plug, in the direction from f to t, that has the leftmost corner of every box right of it, has every corner. Assumes nothing.
use mathlib.Core.List.{List, map}
use Prim.Native.Nat.{ℕ, ◌/◌, ◌<◌, ◌*◌}
use native.Mathlib.Omega.{arith}
use lib.IntN.{ℤ, pos, ◌-ℤ◌}
use lib.Signed.{◌<ℤ◌}
use lib.ListN.{length}
use Rattle.integers.proofs.Expr.{◌⊖◌, #◌, ◌≼◌, ◌≺◌, ◌⟹◌}
use Rattle.integers.proofs.Cert.{cert, hyp, ◌⊞◌, ◌∵◌}
use Rattle.plane.specs.Points.{point, signed_area}
use Rattle.plane.specs.declared.Point.{Point}
use Rattle.plane.specs.Members.{All}
use Rattle.plane.specs.Vectors.{from, along, Separated}
use Rattle.plane.proofs.Lists.{all_map, all_append, all_by_index}
use Rattle.plane.proofs.Twins.{pt, signed_areaᴱ, alongᴱ, fromᴱ}
use Rattle.rounds.specs.Boxes.{Ordered, BoxList, boxes_of, box_at, corner_of, corners_of, all_corners}
use Rattle.rounds.specs.declared.Corner.{Corner}
use Rattle.rounds.specs.declared.Corner.TheVariants.{SouthWest, SouthEast, NorthEast, NorthWest}
use Rattle.rounds.proofs.Rows.{all_boxes_at}
use Rattle.corners.specs.Corners.{nth_corner, Rightmost}
use Rattle.corners.proofs.Places.{nth_corner_lem, corners_length}

module _ (l : List ℤ) (bl : BoxList l) (f t p : Point) (corner : Corner) (most : Rightmost t f corner)
    (beyond : (k : ℕ) → k < length l / 4 → signed_area f t (nth_corner corner (boxes_of l) k) <ℤ signed_area f t p) where
  -- one corner of one box
  behind : (c : Corner) (k : ℕ) → k < length l / 4 → along (f.north -ℤ t.north) (t.east -ℤ f.east) (from 1 p (nth_corner c (boxes_of l) k)) <ℤ pos 0
  behind c k h = rw (← nth_corner_lem c l k h) by_corners
    where
      by_corners : along (f.north -ℤ t.north) (t.east -ℤ f.east) (from 1 p (corner_of c (box_at l (k * 4)))) <ℤ pos 0
      by_corners =
          let o : Ordered (box_at l (k * 4)) = all_boxes_at l bl.ordered k h in
          let b : signed_area f t (corner_of corner (box_at l (k * 4))) <ℤ signed_area f t p = rw (nth_corner_lem corner l k h) (beyond k h) in
          cert 5 0 (λ f t p m q. signed_areaᴱ t f m ≼ signed_areaᴱ t f q ⟹ signed_areaᴱ f t m ≺ signed_areaᴱ f t p
          ⟹ alongᴱ (f.1 ⊖ t.1) (t.0 ⊖ f.0) (fromᴱ p q) ≺ # 0 ∵ hyp 0 ⊞ hyp 1) tt
          (pt f) (pt t) (pt p) (pt (corner_of corner (box_at l (k * 4)))) (pt (corner_of c (box_at l (k * 4)))) (most.least (box_at l (k * 4)) o c) b

  of_name : (c : Corner) → All (λ q. along (f.north -ℤ t.north) (t.east -ℤ f.east) (from 1 p q) <ℤ pos 0) (corners_of c (boxes_of l))
  of_name c = all_by_index (point (pos 0) (pos 0)) (corners_of c (boxes_of l)) (λ k h. behind c k (omega (arith, corners_length c l)))

  pub all_behind : Separated (map (from 1 p) (all_corners (boxes_of l)))
  all_behind =
      record {
        a = f.north -ℤ t.north;
        b = t.east -ℤ f.east;
        behind = all_map (from 1 p) (all_append (all_append (all_append (of_name SouthWest) (of_name SouthEast)) (of_name NorthEast)) (of_name NorthWest));
      }
