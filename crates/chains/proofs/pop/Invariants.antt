-- `chains::pop` meets its contract. The invariant: at least one vertex is left, and no side that went turns right to r. Assumes nothing.
use Prim.Native.Nat.{ℕ, suc, ◌≤◌, ◌<◌}
use lib.IntN.{pos}
use lib.ListN.{length}
use lib.Signed.{◌≤ℤ◌}
use Rattle.chains.specs.Chains.{turn}
use Rattle.orders.specs.Order.{get}
use Rattle.chains.proofs.pop.Given as goal

abbrev pub invariant-loop-n : goal.invariant-loop-n
invariant-loop-n l = let s = l.stack.codes.now in (1 ≤ l.n) × ((j : ℕ) → l.n ≤ suc j → suc j < length s → pos 0 ≤ℤ turn (get s j) (get s (suc j)) l.r)
