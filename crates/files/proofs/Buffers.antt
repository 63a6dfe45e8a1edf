-- A lent buffer that no cause turns back. Assumes nothing.
use mathlib.Core.Path.{◌≡◌}
use Prim.Native.Nat.{ℕ, ◌≤◌}
use borrow.Author.Tests.{ltb-false}
use lib.Dec.{ltb}
use Rattle.rounds.specs.Refusals.{none, needed_place, buffer_fault}
use Rattle.rounds.specs.declared.Cause.TheVariants as Cause
use Rattle.rounds.proofs.Accepted.{when_none}

-- it is as long as needed
pub fits_buffer : (needed given : ℕ) → buffer_fault needed given ≡ none → needed ≤ given
unfolding buffer_fault
fits_buffer needed given e = ltb-false _ _ (when_none (ltb given needed) Cause.BufferShort (needed_place needed) e)
