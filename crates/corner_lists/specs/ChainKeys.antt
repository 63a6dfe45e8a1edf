-- The keys that a chain of points is made of. Definitions only.
use Rattle.std.specs.Prelude.{◌≡◌, List, ℕ, ◌+◌, ◌≤◌, ◌<◌, length}
use Rattle.plane.specs.declared.Point.{Point}
use Rattle.plane.specs.Members.{◌∈◌}
use Rattle.turns.specs.Keys.{IsKey, point_of}
use Rattle.turns.specs.Reflection.{reflected}
use Rattle.orders.specs.Order.{get, Sorted}
use Rattle.chains.specs.Chains.{Amid, Under}

-- the first n numbers are reflected
pub record Reflects (old new : List ℕ) (n : ℕ) : Type 0 where
  pub at : (i : ℕ) → i < n → get new i ≡ reflected (get old i)

-- x is the key of one of the points
pub record KeyIn (qs : List Point) (x : ℕ) : Type 0 where
  pub key : IsKey x
  pub listed : point_of x ∈ qs

-- the least key of points, and the greatest
pub record PointEnds (qs : List Point) (first last : ℕ) : Type 0 where
  pub first_in : KeyIn qs first
  pub last_in : KeyIn qs last
  pub least : (x : ℕ) → KeyIn qs x → first ≤ x
  pub most : (x : ℕ) → KeyIn qs x → x ≤ last

-- room for the keys of two corners of n boxes, and for one more in the list
pub record ChainRoom (n : ℕ) (list keys scratch : List ℕ) : Type 0 where
  pub in_list : n + n + 1 ≤ length list
  pub in_keys : n + n ≤ length keys
  pub in_scratch : n ≤ length scratch

-- the first u of out are what f gives to keys of the points, in order and strictly between first and last; and no key of the points, so changed, is above them
pub record ChainKeys (f : ℕ → ℕ) (qs : List Point) (n first last : ℕ) (out : List ℕ) (u : ℕ) : Type 0 where
  pub few : u ≤ n + n + 1
  pub sorted : Sorted (get out) 0 u
  pub amid : Amid (get out) u first last
  pub from : (j : ℕ) → j < u → (x : ℕ) × KeyIn qs x × (get out j ≡ f x)
  pub under : (x : ℕ) → KeyIn qs x → Under first (get out) u last (f x)
