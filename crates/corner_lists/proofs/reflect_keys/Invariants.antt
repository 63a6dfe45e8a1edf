-- `corner_lists::reflect_keys` meets its contract. The invariant: the first keys are reflected, and the others are as they were. Assumes nothing.
use mathlib.Core.Path.{◌≡◌}
use mathlib.Core.List.{List}
use Prim.Native.Nat.{ℕ, ◌≤◌, ◌<◌}
use Rattle.turns.specs.Reflection.{reflected}
use Rattle.orders.specs.Order.{get}
use Rattle.corner_lists.proofs.reflect_keys.Given as goal

pub record Upto (old new : List ℕ) (i : ℕ) : Type 0 where
  pub done : (j : ℕ) → j < i → get new j ≡ reflected (get old j)
  pub left : (j : ℕ) → i ≤ j → get new j ≡ get old j

abbrev pub invariant-loop-key : goal.invariant-loop-key
invariant-loop-key l = Upto l.initial.keys l.keys l.key-index
