-- The points so far as seen from a plug: what their cone and a corner that is the plug say. Definitions only.
use Rattle.std.specs.Prelude.{Option, List, [], ◌∷◌, ◌++◌, ℕ, get_or}
use Rattle.plane.specs.declared.Point.{Point}
use Rattle.rounds.specs.Boxes.{corners_of}
use Rattle.rounds.specs.declared.Box.{Box}
use Rattle.rounds.specs.declared.Corner.{Corner}
use Rattle.rounds.specs.declared.Corner.TheVariants.{SouthWest}
use Rattle.cones.specs.Cones.{corner_point, Named}
use Rattle.cones.specs.declared.CornerKey.{CornerKey}
use Rattle.passes.specs.Passes.{MetSays, Says, names_in, corners_by}
use Rattle.passes.specs.declared.CornerSet.{CornerSet}
use Rattle.views.specs.declared.View.{View}

-- whether the plug is met among the points and v, whatever points they are
pub record MetOn (p : Point) (met : Option CornerKey) (v : CornerKey) (r : Option CornerKey) : Type 0 where
  pub says : (bs : List Box) (qs : List Point) → Named bs v → MetSays bs qs p met → MetSays bs (qs ++ (corner_point v ∷ [])) p r

-- what a view says of the points qs and the plug p
abbrev pub ViewSays : List Box → List Point → Point → View → Type 0
ViewSays bs qs p view = Says bs qs p view.cone view.met

-- what the view of that one corner of every box says
abbrev pub CornerViewSays : List Box → Corner → Point → View → Type 0
CornerViewSays bs corner p view = ViewSays bs (corners_of corner bs) p view

-- some points have the view
pub record Viewed (bs : List Box) (p : Point) (view : View) : Type 0 where
  pub points : List Point
  pub says : ViewSays bs points p view

-- the view is that of the start's points and of more, whatever points the start's are
pub record LooksAt (bs : List Box) (p : Point) (start : View) (more : List Point) (view : View) : Type 0 where
  pub says : (qs : List Point) → ViewSays bs qs p start → ViewSays bs (qs ++ more) p view

-- one of the corners that are looked at by its place, from 0
abbrev pub nth_name : CornerSet → ℕ → Corner
nth_name set j = get_or (names_in set) j SouthWest

-- the view is that of the start's points and of those corners of every box
abbrev pub LooksOver : List Box → Point → View → CornerSet → View → Type 0
LooksOver bs p start set view = LooksAt bs p start (corners_by set bs) view
