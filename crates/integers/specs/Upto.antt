-- Bounded whole numbers. Definitions only.
use Rattle.std.specs.Prelude.{ℕ, ℤ, pos, neg_ℤ, ◌≤ℤ◌}

-- x is from −b to b
pub record Upto (b : ℕ) (x : ℤ) : Type 0 where
  pub low : neg_ℤ (pos b) ≤ℤ x
  pub high : x ≤ℤ pos b
