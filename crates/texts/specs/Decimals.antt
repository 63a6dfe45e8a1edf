-- Numbers in base ten, as ASCII. Definitions only.
use Rattle.std.specs.Prelude.{ℕ, zero, suc, ◌+◌, ◌/◌, ◌%◌, cond, List, [], ◌∷◌, ◌++◌, ltb}

-- the ASCII code of a digit below ten
abbrev pub digit : ℕ → ℕ
digit d = 48 + d

-- a number in base ten, by division by ten: at most so many digits, the last of them last
unfoldable pub digits_of : ℕ → ℕ → List ℕ
digits_of zero n = []
digits_of (suc more) n = cond (ltb n 10) (digit n ∷ []) (digits_of more (n / 10) ++ (digit (n % 10) ∷ []))

-- a number in base ten (docs/SCOPE.md 8.2), without leading zeros; it has fewer digits than it counts, or one
unfoldable pub decimal : ℕ → List ℕ
decimal n = digits_of (suc n) n
