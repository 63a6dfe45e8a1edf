-- The sum and the difference of a key's parts, each packed with its east part into one number that tells the key. The greatest and the least of these numbers are those
-- of keys that are farthest out to the north-east, the south-west, the north-west and the south-east. Definitions only.
use Rattle.std.specs.Prelude.{◌≡◌, ℕ, ◌+◌, ◌-◌, ◌*◌}
use Rattle.turns.specs.Keys.{IsKey, stride, east_part, north_part}

-- the sum of the parts, and below it the east part
unfoldable pub sum_of : ℕ → ℕ
sum_of k = (north_part k + east_part k) * stride + east_part k

-- the north part less the east part, made natural by a stride, and below it the east part
unfoldable pub difference_of : ℕ → ℕ
difference_of k = (north_part k + (stride - east_part k)) * stride + east_part k

-- x is the number that f gives to a key
abbrev pub Encoded : (ℕ → ℕ) → ℕ → Type 0
Encoded f x = (k : ℕ) × IsKey k × (x ≡ f k)

-- r is the key to which f gives x
abbrev pub Decoded : (ℕ → ℕ) → ℕ → ℕ → Type 0
Decoded f x r = (k : ℕ) → IsKey k → x ≡ f k → r ≡ k
