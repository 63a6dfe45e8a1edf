-- What the corners of boxes tell the first driver, as the code finds it. It fixes which direction is given, so that answers can be proved equal; what the answer means is
-- `SupportSays` (Supports). Definitions only.
use Rattle.std.specs.Option.{option_or}
use Rattle.std.specs.Prelude.{Option, Some, None, List, ℕ, pos}
use Rattle.turns.specs.Keys.{point_of}
use Rattle.rounds.specs.declared.Box.{Box}
use Rattle.rounds.specs.declared.Corner.{Corner}
use Rattle.rounds.specs.declared.Corner.TheVariants.{SouthWest, SouthEast, NorthEast, NorthWest}
use Rattle.rounds.specs.declared.Direction.{Direction}
use Rattle.cones.specs.Cones.{corner_point}
use Rattle.cones.specs.declared.Cone.{Cone}
use Rattle.cones.specs.declared.Cone.TheVariants.{Nothing, Ray, Line, Wedge, Half, Around}
use Rattle.views.specs.Looking.{view_of}
use Rattle.views.specs.declared.View.{View}
use Rattle.supports.specs.Supports.{square_to}

-- by the cone of that one corner of every box: straight east if every point is the plug, else square to its first ray
abbrev pub support_of_cone : ℕ → Cone → Corner → Option Direction
support_of_cone plug Nothing corner = Some (record { corner = corner; east = pos 1; north = pos 0 })
support_of_cone plug (Ray a) corner = Some (square_to (corner_point a) corner (point_of plug))
support_of_cone plug (Line a b) corner = Some (square_to (corner_point a) corner (point_of plug))
support_of_cone plug (Wedge a b) corner = Some (square_to (corner_point a) corner (point_of plug))
support_of_cone plug (Half a b) corner = Some (square_to (corner_point a) corner (point_of plug))
support_of_cone plug (Around a b c) corner = None

-- by that one corner of every box
abbrev pub support_of_corner : ℕ → Corner → List Box → Option Direction
support_of_corner plug corner bs = support_of_cone plug (view_of plug corner bs).cone corner

-- the first that gives a direction, by the four corners one after another, where the south-west corners have the view
abbrev pub support_of : ℕ → List Box → View → Option Direction
support_of plug bs view =
    option_or (support_of_cone plug view.cone SouthWest)
    (option_or (support_of_corner plug SouthEast bs)
    (option_or (support_of_corner plug NorthEast bs)
    (support_of_corner plug NorthWest bs)))
