-- Polygons written into a lent buffer, one behind another. Definitions only.
use Rattle.std.specs.Prelude.{◌≡◌, List, ◌++◌, ℕ, ◌≤◌, ℤ, length, take, drop}
use Rattle.plane.specs.declared.Point.{Point}
use Rattle.plane.specs.Polygons.{Polygon}
use Rattle.rounds.specs.Boxes.{corners_of}
use Rattle.rounds.specs.declared.Box.{Box}
use Rattle.rounds.specs.declared.Corner.TheVariants.{SouthWest, SouthEast, NorthEast, NorthWest}
use Rattle.listings.specs.Listings.{flat, over_front}
use Rattle.polygons.specs.declared.VertexCounts.{VertexCounts}

-- a polygon of the points qs, its start left open, and how many vertices it has
pub record PolygonCounted (qs vertices : List Point) (count : ℕ) : Type 0 where
  pub polygon : Polygon qs vertices
  pub counted : count ≡ length vertices
  pub few : count ≤ length qs

-- the polygon of the points qs is written over a buffer behind its first `from` numbers, which are unchanged
pub record PolygonWritten (qs : List Point) (from : ℕ) (before : List ℤ) (count : ℕ) (after : List ℤ) : Type 0 where
  pub vertices : List Point
  pub made : PolygonCounted qs vertices count
  pub buffer : after ≡ take from before ++ over_front (flat vertices) (drop from before)

-- likewise the polygon of the points qs, and behind it that of the points rs
pub record TwoWritten (qs rs : List Point) (from : ℕ) (before : List ℤ) (first_count second_count : ℕ) (after : List ℤ) : Type 0 where
  pub vs : List Point
  pub ws : List Point
  pub first : PolygonCounted qs vs first_count
  pub second : PolygonCounted rs ws second_count
  pub buffer : after ≡ take from before ++ over_front (flat (vs ++ ws)) (drop from before)

-- the corner polygons of the boxes are written over the front of a buffer, one behind another
pub record CornersWritten (bs : List Box) (before : List ℤ) (counts : VertexCounts) (after : List ℤ) : Type 0 where
  pub sw : List Point
  pub se : List Point
  pub ne : List Point
  pub nw : List Point
  pub southwest : PolygonCounted (corners_of SouthWest bs) sw counts.southwest
  pub southeast : PolygonCounted (corners_of SouthEast bs) se counts.southeast
  pub northeast : PolygonCounted (corners_of NorthEast bs) ne counts.northeast
  pub northwest : PolygonCounted (corners_of NorthWest bs) nw counts.northwest
  pub buffer : after ≡ over_front (flat (sw ++ se ++ ne ++ nw)) before
