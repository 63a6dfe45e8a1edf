-- What is known of the points so far, seen from a plug, and boxes whose corners leave it as it is. Definitions only.
use Rattle.std.specs.Prelude.{◌≡◌, Option, Some, None, List, [], ◌∷◌, ◌++◌, map, ℕ, ◌≤◌, pos, length, get_or, take}
use Rattle.plane.specs.declared.Point.{Point}
use Rattle.plane.specs.Members.{All}
use Rattle.plane.specs.Vectors.{from, Supported}
use Rattle.rounds.specs.Boxes.{box, corner_of}
use Rattle.rounds.specs.declared.Box.{Box}
use Rattle.rounds.specs.declared.Corner.{Corner}
use Rattle.rounds.specs.declared.Corner.TheVariants.{SouthWest, SouthEast, NorthEast, NorthWest}
use Rattle.cones.specs.Cones.{corner_point, Named, ConeSays}
use Rattle.cones.specs.declared.CornerKey.{CornerKey}
use Rattle.cones.specs.declared.Cone.{Cone}
use Rattle.cones.specs.declared.Cone.TheVariants.{Line}
use Rattle.passes.specs.declared.CornerSet.{CornerSet}
use Rattle.passes.specs.declared.CornerSet.TheVariants.{One, Four}

-- no point is the plug
abbrev pub NoneAt : Point → List Point → Type 0
NoneAt p qs = All (λ q. q ≡ p → ⊥) qs

-- a corner that is the plug
pub record IsPlug (bs : List Box) (p : Point) (v : CornerKey) : Type 0 where
  pub named : Named bs v
  pub is : corner_point v ≡ p

-- a corner is the plug; or no point is, unless the plug is strictly inside their hull
abbrev pub MetSays : List Box → List Point → Point → Option CornerKey → Type 0
MetSays bs qs p None = Supported (map (from 1 p) qs) → NoneAt p qs
MetSays bs qs p (Some v) = IsPlug bs p v

-- what is known of the points qs and the plug p
pub record Says (bs : List Box) (qs : List Point) (p : Point) (cone : Cone) (met : Option CornerKey) : Type 0 where
  pub of_cone : ConeSays bs qs p cone
  pub of_met : MetSays bs qs p met

-- the box at place k, from 0
abbrev pub nth_box : List Box → ℕ → Box
nth_box bs k = get_or bs k (box (pos 0) (pos 0) (pos 0) (pos 0))

-- the names of the corners that are looked at
abbrev pub names_in : CornerSet → List Corner
names_in (One corner) = corner ∷ []
names_in Four = SouthWest ∷ SouthEast ∷ NorthEast ∷ NorthWest ∷ []

-- those corners of a box
abbrev pub corners_in : CornerSet → Box → List Point
corners_in set b = map (λ c. corner_of c b) (names_in set)

-- those of every box, box by box
abbrev pub corners_by : CornerSet → List Box → List Point
corners_by set [] = []
corners_by set (b ∷ bs) = corners_in set b ++ corners_by set bs

-- from the first k boxes to the first r, what is known stays, behind whatever points
pub record Passes (p : Point) (cone : Cone) (set : CornerSet) (bs : List Box) (k r : ℕ) : Type 0 where
  pub from : k ≤ r
  pub upto : r ≤ length bs
  pub says : (all : List Box) (qs : List Point) (met : Option CornerKey) → Says all (qs ++ corners_by set (take k bs)) p cone met → Says all (qs ++ corners_by set (take r bs)) p cone met

-- the same where the cone is the line through a and whatever other
pub record PassesLine (p : Point) (a : CornerKey) (set : CornerSet) (bs : List Box) (k r : ℕ) : Type 0 where
  pub passes : (b : CornerKey) → Passes p (Line a b) set bs k r
