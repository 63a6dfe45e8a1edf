-- The least key and the greatest; and keys that are dropped before sorting: those in a rectangle that four keys lie beyond the corners of, by the parts of keys.
-- Definitions only.
use Rattle.std.specs.Prelude.{◌≡◌, ℕ, ◌<◌, ◌≤◌, ◌⊎◌, List, length}
use Rattle.orders.specs.Order.{get, EachAmong}
use Rattle.turns.specs.Keys.{east_part, north_part}
use Rattle.extremes.specs.declared.Far.{Far}
use Rattle.extremes.specs.declared.Rectangle.{Rectangle}

-- x is one of the first n numbers of f
abbrev pub Among : (ℕ → ℕ) → ℕ → ℕ → Type 0
Among f n x = (j : ℕ) × (j < n) × (x ≡ f j)

-- the least number of a list, and the greatest
pub record EndsOf (l : List ℕ) (first last : ℕ) : Type 0 where
  pub first_in : Among (get l) (length l) first
  pub last_in : Among (get l) (length l) last
  pub least : (i : ℕ) → i < length l → first ≤ get l i
  pub most : (i : ℕ) → i < length l → get l i ≤ last

-- r is the lesser of a and b
pub record Lesser (a b r : ℕ) : Type 0 where
  pub first : r ≤ a
  pub second : r ≤ b
  pub either : (r ≡ a) ⊎ (r ≡ b)

-- r is the greater of a and b
pub record Greater (a b r : ℕ) : Type 0 where
  pub first : a ≤ r
  pub second : b ≤ r
  pub either : (r ≡ a) ⊎ (r ≡ b)

-- four keys of a list
pub record FarKeys (l : List ℕ) (far : Far) : Type 0 where
  pub north_east : Among (get l) (length l) far.ne
  pub north_west : Among (get l) (length l) far.nw
  pub south_west : Among (get l) (length l) far.sw
  pub south_east : Among (get l) (length l) far.se

-- a rectangle that does not reach as far as four keys, each beyond one of its corners
pub record Bounds (far : Far) (r : Rectangle) : Type 0 where
  pub west_nw : east_part far.nw < r.west
  pub west_sw : east_part far.sw < r.west
  pub east_ne : r.east ≤ east_part far.ne
  pub east_se : r.east ≤ east_part far.se
  pub south_sw : north_part far.sw < r.south
  pub south_se : north_part far.se < r.south
  pub north_ne : r.north ≤ north_part far.ne
  pub north_nw : r.north ≤ north_part far.nw

-- k is in a rectangle
pub record InRectangle (k : ℕ) (r : Rectangle) : Type 0 where
  pub past_west : r.west ≤ east_part k
  pub past_east : east_part k < r.east
  pub past_south : r.south ≤ north_part k
  pub past_north : north_part k < r.north

-- some of the first n keys of f is strictly in each quadrant round k
pub record Inner (f : ℕ → ℕ) (n k : ℕ) : Type 0 where
  pub north_east : (j : ℕ) × (j < n) × (east_part k < east_part (f j)) × (north_part k < north_part (f j))
  pub north_west : (j : ℕ) × (j < n) × (east_part (f j) < east_part k) × (north_part k < north_part (f j))
  pub south_west : (j : ℕ) × (j < n) × (east_part (f j) < east_part k) × (north_part (f j) < north_part k)
  pub south_east : (j : ℕ) × (j < n) × (east_part k < east_part (f j)) × (north_part (f j) < north_part k)

-- the first n keys of new are keys of old, and each other key of old has property P
pub record Kept (old new : List ℕ) (n : ℕ) (P : ℕ → Type 0) : Type 0 where
  pub few : n ≤ length old
  pub kept : EachAmong (get new) n (get old) (length old)
  pub rest : (i : ℕ) → i < length old → Among (get new) n (get old i) ⊎ P (get old i)

-- the first n keys of new are keys of old, and round each other key of old they are in all four quadrants
abbrev pub Outer : List ℕ → List ℕ → ℕ → Type 0
Outer old new n = Kept old new n (Inner (get new) n)
