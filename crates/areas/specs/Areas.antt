-- What the outer polygon's call and the corner polygons' call promise: the reply, and every number of the lent buffer at exit, refusals too. Only the start of each
-- polygon is left open (plane's Polygon says what holds of it). Definitions only.
use Rattle.std.specs.Prelude.{◌≡◌, Result, Ok, List, ◌++◌, ℕ, ℤ, length}
use Rattle.plane.specs.declared.Point.{Point}
use Rattle.plane.specs.Polygons.{Polygon}
use Rattle.rounds.specs.Boxes.{boxes_of, corners_of, all_corners}
use Rattle.rounds.specs.Refusals.{none, fault, fault_of, area_fault}
use Rattle.rounds.specs.declared.Cause.{Cause}
use Rattle.rounds.specs.declared.Refusal.{Refusal}
use Rattle.rounds.specs.Replies.{reply_of, reply_under, buffer_under}
use Rattle.rounds.specs.declared.Corner.TheVariants.{SouthWest, SouthEast, NorthEast, NorthWest}
use Rattle.listings.specs.Listings.{needed, listing, answered}
use Rattle.polygons.specs.declared.VertexCounts.{VertexCounts}

-- the vertices of four polygons, counted
abbrev pub counts_of : List Point → List Point → List Point → List Point → VertexCounts
counts_of sw se ne nw = record { southwest = length sw; southeast = length se; northeast = length ne; northwest = length nw }

-- ---- promises

-- the outer polygon, the hull of all four corners of all boxes: counted in the reply, and in the buffer's first 8 × N numbers
pub record OuterAnswered (boxes before : List ℤ) (reply : Result ℕ Refusal) (after : List ℤ) : Type 0 where
  pub outer : List Point
  pub polygon : area_fault boxes (length before) ≡ none → Polygon (all_corners (boxes_of boxes)) outer
  pub replied : reply_of reply ≡ reply_under (area_fault boxes (length before)) (length outer)
  pub buffer : after ≡ buffer_under (area_fault boxes (length before)) (listing (needed boxes) outer) before

-- the corner polygons, the hulls of that one corner of every box: counted in the reply, and in the buffer one behind another
pub record CornersAnswered (boxes before : List ℤ) (reply : Result VertexCounts Refusal) (after : List ℤ) : Type 0 where
  pub sw : List Point
  pub se : List Point
  pub ne : List Point
  pub nw : List Point
  pub southwest : area_fault boxes (length before) ≡ none → Polygon (corners_of SouthWest (boxes_of boxes)) sw
  pub southeast : area_fault boxes (length before) ≡ none → Polygon (corners_of SouthEast (boxes_of boxes)) se
  pub northeast : area_fault boxes (length before) ≡ none → Polygon (corners_of NorthEast (boxes_of boxes)) ne
  pub northwest : area_fault boxes (length before) ≡ none → Polygon (corners_of NorthWest (boxes_of boxes)) nw
  pub replied : reply_of reply ≡ reply_under (area_fault boxes (length before)) (counts_of sw se ne nw)
  pub buffer : after ≡ buffer_under (area_fault boxes (length before)) (listing (needed boxes) (sw ++ se ++ ne ++ nw)) before

-- ---- the same, with the fault first

-- the outer polygon, the hull of all four corners of all boxes, is counted in the reply and stands in the buffer
pub record OuterListed (boxes before : List ℤ) (reply : Result ℕ Refusal) (after : List ℤ) : Type 0 where
  pub outer : List Point
  pub polygon : Polygon (all_corners (boxes_of boxes)) outer
  pub counted : reply ≡ Ok (length outer)
  pub buffer : after ≡ answered (needed boxes) outer before

-- the corner polygons, the hulls of that one corner of every box, are counted in the reply and stand in the buffer one behind another
pub record CornersListed (boxes before : List ℤ) (reply : Result VertexCounts Refusal) (after : List ℤ) : Type 0 where
  pub sw : List Point
  pub se : List Point
  pub ne : List Point
  pub nw : List Point
  pub southwest : Polygon (corners_of SouthWest (boxes_of boxes)) sw
  pub southeast : Polygon (corners_of SouthEast (boxes_of boxes)) se
  pub northeast : Polygon (corners_of NorthEast (boxes_of boxes)) ne
  pub northwest : Polygon (corners_of NorthWest (boxes_of boxes)) nw
  pub counted : reply ≡ Ok (record { southwest = length sw; southeast = length se; northeast = length ne; northwest = length nw })
  pub buffer : after ≡ answered (needed boxes) (sw ++ se ++ ne ++ nw) before

-- the promise of outer_polygon: the refusal that the order (docs/SCOPE.md 6) gives and no other, the buffer then as it was; else the outer polygon
pub record OuterPromise (boxes before : List ℤ) (reply : Result ℕ Refusal) (after : List ℤ) : Type 0 where
  pub cause : fault_of reply ≡ area_fault boxes (length before)
  pub kept : (c : Cause) (place : ℕ) → area_fault boxes (length before) ≡ fault c place → after ≡ before
  pub listed : area_fault boxes (length before) ≡ none → OuterListed boxes before reply after

-- the promise of corner_polygons, likewise
pub record CornersPromise (boxes before : List ℤ) (reply : Result VertexCounts Refusal) (after : List ℤ) : Type 0 where
  pub cause : fault_of reply ≡ area_fault boxes (length before)
  pub kept : (c : Cause) (place : ℕ) → area_fault boxes (length before) ≡ fault c place → after ≡ before
  pub listed : area_fault boxes (length before) ≡ none → CornersListed boxes before reply after
