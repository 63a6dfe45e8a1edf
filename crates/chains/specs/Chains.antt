-- The upper chain of some keys. Keys and vertices are functions of an index: `q i` is the i-th key, of which there are m, and `s j` the j-th vertex, of which there are k.
-- Definitions only.
use Rattle.std.specs.Prelude.{List, [], ◌∷◌, ◌++◌, ◌≡◌, ℕ, suc, ◌≤◌, ◌<◌, ℤ, pos, ◌≤ℤ◌, ◌<ℤ◌}
use Rattle.plane.specs.Points.{signed_area}
use Rattle.turns.specs.Keys.{point_of}
use Rattle.orders.specs.Order.{get}

-- twice the signed area of the triangle of three keys' points: less than 0 at a right turn
unfoldable pub turn : ℕ → ℕ → ℕ → ℤ
turn a b c = signed_area (point_of a) (point_of b) (point_of c)

-- the upper chain of m keys in order, from the first to the last: each vertex is a key, the way turns right at each, and each key is right of each side or on it
pub record Chain (q : ℕ → ℕ) (m : ℕ) (s : ℕ → ℕ) (k : ℕ) : Type 0 where
  pub some : 1 ≤ k
  pub few : k ≤ m
  pub first : s 0 ≡ q 0
  pub last : (i j : ℕ) → suc i ≡ m → suc j ≡ k → s j ≡ q i
  pub from : (j : ℕ) → j < k → (i : ℕ) × (i < m) × (s j ≡ q i)
  pub rising : (j : ℕ) → suc j < k → s j < s (suc j)
  pub bends : (j : ℕ) → suc (suc j) < k → turn (s j) (s (suc j)) (s (suc (suc j))) <ℤ pos 0
  pub right : (i j : ℕ) → i < m → suc j < k → turn (s j) (s (suc j)) (q i) ≤ℤ pos 0

-- what popping leaves for a next key r, n vertices of k: the last side that is left turns right to r, and no side that went does
pub record Popped (s : ℕ → ℕ) (k r n : ℕ) : Type 0 where
  pub some : 1 ≤ n
  pub most : n ≤ k
  pub bend : (j : ℕ) → suc (suc j) ≡ n → turn (s j) (s (suc j)) r <ℤ pos 0
  pub gone : (j : ℕ) → n ≤ suc j → suc j < k → pos 0 ≤ℤ turn (s j) (s (suc j)) r

-- the first m numbers are strictly between first and last
pub record Amid (q : ℕ → ℕ) (m first last : ℕ) : Type 0 where
  pub above : (i : ℕ) → i < m → first < q i
  pub below : (i : ℕ) → i < m → q i < last

-- the numbers of a list, after first and before last
abbrev pub framed : ℕ → List ℕ → ℕ → ℕ → ℕ
framed first l last = get (first ∷ (l ++ (last ∷ [])))

-- k is not above first, u numbers of out and last: wherever all of them are right of a way to a greater key or on it, k is
pub record Under (first : ℕ) (out : ℕ → ℕ) (u last k : ℕ) : Type 0 where
  pub right : (a b : ℕ) → a < b → turn a b first ≤ℤ pos 0 → ((j : ℕ) → j < u → turn a b (out j) ≤ℤ pos 0) → turn a b last ≤ℤ pos 0 → turn a b k ≤ℤ pos 0
