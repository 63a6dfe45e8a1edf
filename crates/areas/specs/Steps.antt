-- What the private steps of the polygon calls leave: polygons in the buffer, and zeros behind them. Definitions only.
use Rattle.std.specs.Prelude.{◌≡◌, List, ◌++◌, ℕ, ℤ, length}
use Rattle.plane.specs.declared.Point.{Point}
use Rattle.plane.specs.Polygons.{Polygon}
use Rattle.rounds.specs.Boxes.{boxes_of, corners_of, all_corners}
use Rattle.rounds.specs.declared.Corner.TheVariants.{SouthWest, SouthEast, NorthEast, NorthWest}
use Rattle.listings.specs.Listings.{needed, over_front, listing}
use Rattle.polygons.specs.declared.VertexCounts.{VertexCounts}
use Rattle.areas.specs.Areas.{counts_of}

-- the outer polygon is counted and stands in the buffer
pub record OuterStands (boxes before : List ℤ) (count : ℕ) (after : List ℤ) : Type 0 where
  pub outer : List Point
  pub polygon : Polygon (all_corners (boxes_of boxes)) outer
  pub counted : count ≡ length outer
  pub buffer : after ≡ over_front (listing (needed boxes) outer) before

-- the corner polygons are counted and stand in the buffer, one behind another
pub record CornersStand (boxes before : List ℤ) (counts : VertexCounts) (after : List ℤ) : Type 0 where
  pub sw : List Point
  pub se : List Point
  pub ne : List Point
  pub nw : List Point
  pub southwest : Polygon (corners_of SouthWest (boxes_of boxes)) sw
  pub southeast : Polygon (corners_of SouthEast (boxes_of boxes)) se
  pub northeast : Polygon (corners_of NorthEast (boxes_of boxes)) ne
  pub northwest : Polygon (corners_of NorthWest (boxes_of boxes)) nw
  pub counted : counts ≡ counts_of sw se ne nw
  pub buffer : after ≡ over_front (listing (needed boxes) (sw ++ se ++ ne ++ nw)) before
