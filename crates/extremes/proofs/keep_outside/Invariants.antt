-- `extremes::keep_outside` meets its contract. The invariant: `Keeping` of proofs/Dropping, after i keys are passed and n kept. Assumes nothing.
use Rattle.extremes.specs.Inner.{InRectangle}
use Rattle.extremes.proofs.Dropping.{Keeping}
use Rattle.extremes.proofs.keep_outside.Given as goal

abbrev pub invariant-loop-i : goal.invariant-loop-i
invariant-loop-i l = Keeping l.initial.keys l.keys l.i l.n (λ k. InRectangle k l.fn.r)
