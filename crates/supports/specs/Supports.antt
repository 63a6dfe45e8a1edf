-- What the corners of boxes tell the first driver of a plug, and what a cone tells. Definitions only.
use Rattle.std.specs.Prelude.{Option, Some, None, ◌≡◌, Bool, true, List, map}
use Rattle.plane.specs.Points.{outward_east, outward_north}
use Rattle.plane.specs.declared.Point.{Point}
use Rattle.plane.specs.Vectors.{from, Supported}
use Rattle.rounds.specs.Boxes.{corners_of}
use Rattle.rounds.specs.Reasons.{DirectionHolds}
use Rattle.rounds.specs.declared.Box.{Box}
use Rattle.rounds.specs.declared.Corner.{Corner}
use Rattle.rounds.specs.declared.Direction.{Direction}
use Rattle.cones.specs.Cones.{ConeSays}
use Rattle.cones.specs.declared.Cone.{Cone}

-- the direction square to the ray from the plug p through a, with a corner's name
abbrev pub square_to : Point → Corner → Point → Direction
square_to a corner p = record { corner = corner; east = outward_east a p; north = outward_north a p }

-- what one corner of every box tells: the plug is strictly inside their hull, or not by that direction
abbrev pub SupportAt : List Box → Point → Corner → Option Direction → Type 0
SupportAt bs p corner None = Supported (map (from 1 p) (corners_of corner bs)) → ⊥
SupportAt bs p corner (Some d) = DirectionHolds bs p d

-- what the four corners of every box tell: the plug is strictly inside the hull of each, or not of one by that direction
abbrev pub SupportSays : List Box → Point → Option Direction → Type 0
SupportSays bs p None = (corner : Corner) → Supported (map (from 1 p) (corners_of corner bs)) → ⊥
SupportSays bs p (Some d) = DirectionHolds bs p d

-- the answer yes shows that the plug is strictly inside the hull of that one corner of every box
pub record TriangleSays (bs : List Box) (p : Point) (corner : Corner) (r : Bool) : Type 0 where
  pub surrounded : r ≡ true → SupportAt bs p corner None

-- what the cone of that one corner of every box tells, whatever boxes they are
pub record SupportBy (p : Point) (cone : Cone) (corner : Corner) (r : Option Direction) : Type 0 where
  pub says : (bs : List Box) → ConeSays bs (corners_of corner bs) p cone → SupportAt bs p corner r
