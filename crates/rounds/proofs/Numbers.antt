-- The numbers of causes. Assumes nothing.
use mathlib.Core.Path.{◌≡◌, refl}
use native.Mathlib.Omega.{arith}
use Rattle.rounds.specs.Refusals.{number_of, cause_meant}
use Rattle.rounds.specs.declared.Cause.{Cause}

-- no cause has the number 0
pub number_positive : (c : Cause) → number_of c ≡ 0 → ⊥
number_positive Cause.ListLength e = omega arith
number_positive Cause.NoBox e = omega arith
number_positive Cause.TooManyBoxes e = omega arith
number_positive Cause.EdgeBeyond e = omega arith
number_positive Cause.EdgesReversed e = omega arith
number_positive Cause.PlugBeyond e = omega arith
number_positive Cause.BufferShort e = omega arith
number_positive Cause.UnknownMark e = omega arith
number_positive Cause.CutShort e = omega arith
number_positive Cause.BoxAfterPlug e = omega arith
number_positive Cause.ByteAfterEnd e = omega arith
number_positive Cause.InputTooLong e = omega arith

-- the number of a cause means that cause
pub cause_back : (c : Cause) → cause_meant (number_of c) ≡ c
cause_back Cause.ListLength = refl
cause_back Cause.NoBox = refl
cause_back Cause.TooManyBoxes = refl
cause_back Cause.EdgeBeyond = refl
cause_back Cause.EdgesReversed = refl
cause_back Cause.PlugBeyond = refl
cause_back Cause.BufferShort = refl
cause_back Cause.UnknownMark = refl
cause_back Cause.CutShort = refl
cause_back Cause.BoxAfterPlug = refl
cause_back Cause.ByteAfterEnd = refl
cause_back Cause.InputTooLong = refl
