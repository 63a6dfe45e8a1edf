-- A plug that a line separates from all boxes. Definitions only.
use Rattle.std.specs.Prelude.{◌≡◌, Bool, true, List, map}
use Rattle.plane.specs.declared.Point.{Point}
use Rattle.plane.specs.Vectors.{from, Separated}
use Rattle.rounds.specs.Boxes.{all_corners}
use Rattle.rounds.specs.declared.Box.{Box}

-- the answer yes shows that a direction has all corners strictly behind the plug
pub record SeparatedIf (bs : List Box) (p : Point) (r : Bool) : Type 0 where
  pub separated : r ≡ true → Separated (map (from 1 p) (all_corners bs))
