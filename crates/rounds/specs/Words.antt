-- The two drivers, and what each verdict word says of every pick (docs/SCOPE.md 1.9, 4.1). Definitions only.
use Rattle.std.specs.Prelude.{◌⊎◌, List, map}
use Rattle.std.proofs.Common.{inl, inr}
use Rattle.plane.specs.declared.Point.{Point}
use Rattle.plane.specs.Vectors.{from, Supported, Balanced}
use Rattle.plane.proofs.Alternative.{alternative}
use Rattle.plane.proofs.Supporting.{supported_dec}
use Rattle.rounds.specs.Boxes.{corners_of, all_corners}
use Rattle.rounds.specs.Picks.{Pick}
use Rattle.rounds.specs.declared.Box.{Box}
use Rattle.rounds.specs.declared.Word.{Word}
use Rattle.rounds.specs.declared.Word.TheVariants.{Inside, Outside, Undecided}
use Rattle.rounds.specs.declared.Corner.{Corner}
use Rattle.rounds.specs.declared.Corner.TheVariants.{SouthWest, SouthEast, NorthEast, NorthWest}

-- the pick succeeds for the first driver: the plug is not strictly inside its hull
abbrev pub FirstSucceeds : {bs : List Box} → Point → Pick bs → Type 0
FirstSucceeds p k = Supported (map (from k.denominator p) k.points)

-- the pick succeeds for the second driver: the plug is in its hull
abbrev pub SecondSucceeds : {bs : List Box} → Point → Pick bs → Type 0
SecondSucceeds p k = Balanced (map (from k.denominator p) k.points)

-- inside: no pick succeeds for the first driver; outside: none for the second; undecided: one succeeds for each
abbrev pub Means : List Box → Point → Word → Type 0
Means bs p Inside = (k : Pick bs) → FirstSucceeds p k → ⊥
Means bs p Outside = (k : Pick bs) → SecondSucceeds p k → ⊥
Means bs p Undecided = ((k : Pick bs) × FirstSucceeds p k) × ((k : Pick bs) × SecondSucceeds p k)

-- outside where all corners together do not balance; inside where no corner list is supported
abbrev pub word_by : {B S W E N X : Type 0} → B ⊎ S → Dec W → Dec E → Dec N → Dec X → Word
word_by (inr s) w e n x = Outside
word_by (inl b) (yes h) e n x = Undecided
word_by (inl b) (no w) (yes h) n x = Undecided
word_by (inl b) (no w) (no e) (yes h) x = Undecided
word_by (inl b) (no w) (no e) (no n) (yes h) = Undecided
word_by (inl b) (no w) (no e) (no n) (no x) = Inside

-- the word of a plug, by the finite formulas with corners (docs/SCOPE.md 2.3). For ordered boxes it is the only word that `Means` holds of
-- (proofs/Total: `exactly`)
unfoldable pub word_of : List Box → Point → Word
word_of bs p =
    word_by (alternative (map (from 1 p) (all_corners bs)))
    (at SouthWest) (at SouthEast) (at NorthEast) (at NorthWest)
  where
    at : (c : Corner) → Dec (Supported (map (from 1 p) (corners_of c bs)))
    at c = supported_dec (map (from 1 p) (corners_of c bs))
