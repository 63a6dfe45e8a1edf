-- `chains::upper_chain` meets its contract. The invariant: the first k of stack are the chain over the first key and the next ones. A turn is `next` of proofs/Chaining.
-- Assumes nothing.
use Prim.Native.Nat.{suc}
use Rattle.orders.specs.Order.{get}
use Rattle.chains.specs.Chains.{Chain, framed}
use Rattle.chains.proofs.upper_chain.Given as goal

abbrev pub invariant-loop-i : goal.invariant-loop-i
invariant-loop-i l = Chain (framed l.fn.ends.first l.keys.codes.now l.fn.ends.last) (suc l.i) (get l.stack) l.k
