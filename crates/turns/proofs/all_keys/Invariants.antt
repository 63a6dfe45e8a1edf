-- `turns::all_keys` meets its contract. The invariant: the keys before the place are told. Assumes nothing.
use Rattle.std.proofs.Common.{ℕ, ◌<◌, get_or}
use Rattle.turns.specs.Keys.{IsKey}
use Rattle.turns.proofs.all_keys.Given as goal

abbrev pub invariant-loop-key : goal.invariant-loop-key
invariant-loop-key l = (i : ℕ) → i < l.key-index → IsKey (get_or l.keys i 0)
