-- `extremes::find_ends` meets its contract. The invariant: of the first i values, first is the least and last the greatest. Assumes nothing.
use Rattle.std.proofs.Common.{◌≡◌, ℕ, ◌<◌, ◌≤◌, List, length, map}
use Rattle.orders.specs.Order.{get}
use Rattle.extremes.proofs.find_ends.Given as goal

-- the same of the first i numbers
pub record Sofar (l : List ℕ) (i first last : ℕ) : Type 0 where
  pub i_in : i ≤ length l
  pub first_in : (j : ℕ) × (j < length l) × (first ≡ get l j)
  pub last_in : (j : ℕ) × (j < length l) × (last ≡ get l j)
  pub least : (j : ℕ) → j < i → first ≤ get l j
  pub most : (j : ℕ) → j < i → get l j ≤ last

abbrev pub invariant-loop-value : goal.invariant-loop-value
invariant-loop-value g l = Sofar (map g.T.Coded.code l.values) l.value-index (g.T.Coded.code l.first) (g.T.Coded.code l.last)
