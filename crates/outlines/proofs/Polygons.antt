-- From keys of points to the keys of their polygon. Assumes nothing.
use mathlib.Core.Path.{◌≡◌, sym, ◌∙◌, ap, subst}
use mathlib.Core.List.{List, map}
use Prim.Native.Nat.{ℕ, ◌≤◌, ◌%◌}
use native.Mathlib.Omega.{arith}
use lib.IntN.{ℤ}
use lib.ListN.{length, take, length-append}
use lib.Seq.{length-take-le}
use Rattle.plane.specs.declared.Point.{Point}
use Rattle.plane.specs.Polygons.{Polygon}
use Rattle.turns.specs.Keys.{point_of}
use Rattle.turns.proofs.Listed.{front_listed}
use Rattle.hulls.specs.Hulls.{Hull}
use Rattle.rounds.specs.Boxes.{boxes_of, all_corners}
use Rattle.rounds.specs.declared.Corner.TheVariants.{SouthWest, SouthEast, NorthEast, NorthWest}
use Rattle.corner_lists.specs.KeyLists.{KeysOf}
use Rattle.outlines.specs.Outlines.{PolygonKeys}
use Rattle.corners.proofs.Places.{corners_length}

-- four corners for each box of a list of fours
pub all_length : (l : List ℤ) → length l % 4 ≡ 0 → length (all_corners (boxes_of l)) ≡ length l
all_length l h =
    simp length-append (omega (arith, corners_length SouthWest l, corners_length SouthEast l, corners_length NorthEast l, corners_length NorthWest l))

-- the first n keys of ks are those of the points qs
module _ (qs : List Point) (ks : List ℕ) (n : ℕ) (e : length qs ≡ n) (h : n ≤ length ks) (f : KeysOf qs ks) where
  pub front_length : length (take n ks) ≡ n
  front_length = length-take-le n ks h

  pub front_polygon : (vs : List ℕ) (count : ℕ) → Hull (take n ks) vs count → PolygonKeys qs vs count
  front_polygon vs count g =
      record {
        some = g.some;
        few = omega (arith, g.few, front_length);
        keys = front_listed vs count g.listed;
        polygon = subst (λ q. Polygon q (map point_of (take count vs))) (ap (λ m. map point_of (take m ks)) (sym e) ∙ f.points) g.polygon;
      }
