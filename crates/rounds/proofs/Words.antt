-- What shows undecided: the drivers' reasons. (`Corners` has outside and inside, in terms of directions.) Assumes nothing.
use mathlib.Core.List.{List}
use lib.IntN.{ℤ}
use Rattle.plane.specs.declared.Point.{Point}
use Rattle.plane.specs.Members.{All}
use Rattle.rounds.specs.Boxes.{Ordered}
use Rattle.rounds.specs.declared.Box.{Box}
use Rattle.rounds.specs.Reasons.{FirstReason, SecondReason}
use Rattle.rounds.specs.declared.Entry.{Entry}
use Rattle.rounds.specs.Words.{FirstSucceeds, Means}
use Rattle.rounds.specs.declared.Word.TheVariants.{Undecided}
use Rattle.rounds.specs.declared.Corner.{Corner}
use Rattle.rounds.proofs.Corners.{corner_pick, reason_supported}
use Rattle.rounds.proofs.Entries.{mean_pick, second_succeeds}

-- the corner name's pick serves the first driver
pub first_succeeds : {bs : List Box} (p : Point) (os : All Ordered bs) (c : Corner) (a b : ℤ) → FirstReason bs p c a b → FirstSucceeds p (corner_pick os c)
first_succeeds p os c a b r = reason_supported r

pub undecided_by : {bs : List Box} (p : Point) → All Ordered bs → (c : Corner) (a b : ℤ) (es : List Entry) → FirstReason bs p c a b → SecondReason bs p es → Means bs p Undecided
undecided_by p os c a b es r s = ((corner_pick os c, first_succeeds p os c a b r), (mean_pick os es, second_succeeds p os es s))
