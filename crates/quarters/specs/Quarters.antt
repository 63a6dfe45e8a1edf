-- The keys that the upper chain of the corners of boxes is made of. Definitions only.
use Rattle.std.specs.Prelude.{◌≡◌, ◌⊎◌, List, ℕ, ◌+◌, ◌≤◌, ◌<◌, pos, ◌<ℤ◌, length, set}
use Rattle.turns.specs.Keys.{north_part}
use Rattle.orders.specs.Order.{get, Sorted}
use Rattle.chains.specs.Chains.{turn, Amid, Under}
use Rattle.extremes.specs.Inner.{Among}
use Rattle.halves.specs.Halves.{Part}

-- one of two keys, of which neither is further north
pub record FurtherNorth (a b r : ℕ) : Type 0 where
  pub first : north_part a ≤ north_part r
  pub second : north_part b ≤ north_part r
  pub either : (r ≡ a) ⊎ (r ≡ b)

-- a key of the list that no other is north of
pub record Northmost (l : List ℕ) (p : ℕ) : Type 0 where
  pub listed : Among (get l) (length l) p
  pub most : (i : ℕ) → i < length l → north_part (get l i) ≤ north_part p

-- k is strictly between two keys in order, and strictly left of the line from the one to the other
pub record Outside (from to k : ℕ) : Type 0 where
  pub after : from < k
  pub before : k < to
  pub left : pos 0 <ℤ turn from to k

-- what keeping k behind the first n of old comes to, if it is: m are in new
pub record KeptIf (from to k : ℕ) (old : List ℕ) (n : ℕ) (new : List ℕ) (m : ℕ) : Type 0 where
  pub kept : ((m ≡ n + 1) × Outside from to k × (new ≡ set old n k)) ⊎ ((m ≡ n) × (Outside from to k → ⊥) × (new ≡ old))

-- the first n of out are the keys of a list that are outside
pub record Quarter (keys : List ℕ) (from to : ℕ) (out : List ℕ) (n : ℕ) : Type 0 where
  pub few : n ≤ length keys
  pub part : Part (get keys) (length keys) (λ k. k) (get out) n (Outside from to) (λ k. Outside from to k → ⊥)

-- and they are in order
pub record SortedQuarter (keys : List ℕ) (from to : ℕ) (out : List ℕ) (n : ℕ) : Type 0 where
  pub quarter : Quarter keys from to out n
  pub sorted : Sorted (get out) 0 n

-- what putting p behind the first n of old comes to: m are in new, one more if p is strictly between first and last
pub record PeakPut (first p last : ℕ) (old : List ℕ) (n : ℕ) (new : List ℕ) (m : ℕ) : Type 0 where
  pub kept : (j : ℕ) → j < n → get new j ≡ get old j
  pub put : ((m ≡ n) × ((p ≤ first) ⊎ (last ≤ p))) ⊎ ((m ≡ n + 1) × (first < p) × (p < last) × (get new n ≡ p))

-- each number of a list is from first to last
pub record FromTo (l : List ℕ) (first last : ℕ) : Type 0 where
  pub least : (i : ℕ) → i < length l → first ≤ get l i
  pub most : (i : ℕ) → i < length l → get l i ≤ last

-- two lists of numbers from first to last, and room for them
pub record UpperInput (left right : List ℕ) (first last : ℕ) (out scratch : List ℕ) : Type 0 where
  pub some : 1 ≤ length left
  pub left_ends : FromTo left first last
  pub right_ends : FromTo right first last
  pub out_room : length left + length right + 1 ≤ length out
  pub left_scratch : length left ≤ length scratch
  pub right_scratch : length right ≤ length scratch

-- u keys of two lists, in order and strictly between first and last, above which is no key of left up to a northmost one of left, and no key of right from there on
pub record UpperList (left right : List ℕ) (first last : ℕ) (out : List ℕ) (u : ℕ) : Type 0 where
  pub few : u ≤ length left + length right + 1
  pub sorted : Sorted (get out) 0 u
  pub amid : Amid (get out) u first last
  pub from : (j : ℕ) → j < u → Among (get left) (length left) (get out j) ⊎ Among (get right) (length right) (get out j)
  pub peak : ℕ
  pub northmost : Northmost left peak
  pub left_under : (i : ℕ) → i < length left → get left i ≤ peak → Under first (get out) u last (get left i)
  pub right_under : (i : ℕ) → i < length right → peak ≤ get right i → Under first (get out) u last (get right i)
