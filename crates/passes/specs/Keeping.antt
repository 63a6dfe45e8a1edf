-- The corners of a box that are looked at, as keys, and boxes whose corners leave the cone as it is. Definitions only.
use Rattle.std.specs.Prelude.{◌≡◌, false, List, map, ℕ, suc, ◌≤◌, ◌<◌, eqb, length}
use Rattle.plane.specs.Members.{All}
use Rattle.rounds.specs.declared.Box.{Box}
use Rattle.cones.specs.Wider.{numbered, is_around, cone_with}
use Rattle.cones.specs.declared.CornerKey.{CornerKey}
use Rattle.cones.specs.declared.Cone.{Cone}
use Rattle.cones.specs.declared.Cone.TheVariants.{Line}
use Rattle.passes.specs.Passes.{nth_box, names_in}
use Rattle.passes.specs.declared.CornerSet.{CornerSet}

-- the corners of a box that are looked at, as keys, of the box with a number
abbrev pub keys_in : CornerSet → ℕ → Box → List CornerKey
keys_in set n b = map (numbered n b) (names_in set)

-- a corner leaves the cone as it is, and is not the plug
pub record Keeps (plug : ℕ) (cone : Cone) (v : CornerKey) : Type 0 where
  pub same : cone_with plug cone v ≡ cone
  pub apart : eqb v.key plug ≡ false

-- so do those corners of the box with a number; and the plug is not strictly inside, where no more boxes are looked at
pub record KeepsBox (plug : ℕ) (cone : Cone) (set : CornerSet) (n : ℕ) (b : Box) : Type 0 where
  pub onward : is_around cone ≡ false
  pub corners : All (Keeps plug cone) (keys_in set n b)

-- so do the boxes from place k to place r
pub record KeepsBoxes (plug : ℕ) (cone : Cone) (set : CornerSet) (bs : List Box) (k r : ℕ) : Type 0 where
  pub from : k ≤ r
  pub upto : r ≤ length bs
  pub keeps : (i : ℕ) → k ≤ i → i < r → KeepsBox plug cone set (suc i) (nth_box bs i)

-- the same where the cone is the line through a and whatever other
pub record KeepsLine (plug : ℕ) (a : CornerKey) (set : CornerSet) (bs : List Box) (k r : ℕ) : Type 0 where
  pub keeps : (b : CornerKey) → KeepsBoxes plug (Line a b) set bs k r
