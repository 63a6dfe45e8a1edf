-- The order of refinement (docs/SCOPE.md 2.4): boxes that become smaller, as doors become known. Definitions only.
use Rattle.std.specs.Prelude.{◌≡◌, List, [], ◌∷◌, ℤ, ◌≤ℤ◌}
use Rattle.plane.specs.declared.Point.{Point}
use Rattle.rounds.specs.Boxes.{boxes_of}
use Rattle.rounds.specs.Refusals.{Fault, verdict_fault}
use Rattle.rounds.specs.Replies.{result}
use Rattle.rounds.specs.declared.Box.{Box}
use Rattle.rounds.specs.declared.Word.TheVariants.{Inside, Outside}
use Rattle.verdicts.specs.Verdicts.{verdict_on}

-- a box lies in another, edges included
pub record LiesIn (b c : Box) : Type 0 where
  pub west : c.west ≤ℤ b.west
  pub south : c.south ≤ℤ b.south
  pub east : b.east ≤ℤ c.east
  pub north : b.north ≤ℤ c.north

-- every box of one round lies in the box of the same number of the other
infixr 35 ◌&◌
pub data Refines : List Box → List Box → Type 0 where
  none : Refines [] []
  ◌&◌ : {b c : Box} {bs cs : List Box} → LiesIn b c → Refines bs cs → Refines (b ∷ bs) (c ∷ cs)

-- what is inside stays inside, and what is outside stays outside
pub record Refinement : Type 0 where
  pub inside_stays : (fine coarse : List ℤ) (plug : Point) → Refines (boxes_of fine) (boxes_of coarse) → verdict_fault fine plug ≡ Fault.none
      → verdict_on coarse plug ≡ result Inside → verdict_on fine plug ≡ result Inside
  pub outside_stays : (fine coarse : List ℤ) (plug : Point) → Refines (boxes_of fine) (boxes_of coarse) → verdict_fault fine plug ≡ Fault.none
      → verdict_on coarse plug ≡ result Outside → verdict_on fine plug ≡ result Outside
