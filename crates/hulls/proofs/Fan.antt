-- The vertices of a chain, seen from its first: each that is no end is strictly left of the line from the first to the last. Assumes nothing.
use mathlib.Core.Path.{◌≡◌}
use Prim.Native.Nat.{ℕ, zero, suc, ◌<◌}
use native.Mathlib.Decide.{dec_lt}
use native.Mathlib.Omega.{arith}
use lib.IntN.{pos}
use lib.Signed.{◌<ℤ◌}
use Rattle.chains.specs.Chains.{turn, Chain}
use Rattle.chains.proofs.Turning.{around, onward}

module _ (q : ℕ → ℕ) (m : ℕ) (s : ℕ → ℕ) (k : ℕ) (ch : Chain q m s k) where
  pub rises : (i j : ℕ) → i < j → j < k → s i < s j
  rises i zero h l = absurd (omega arith)
  rises i (suc j) h l = go (rises i j) (dec_lt i j)
    where
      go : (i < j → j < k → s i < s j) → Dec (i < j) → s i < s (suc j)
      go f (yes o) = let a = f o (omega arith) in let b = ch.rising j l in omega arith
      go f (no o) = let e : i ≡ j = omega arith in rw e (ch.rising j l)

  fan_next : (j : ℕ) → suc (suc j) < k → turn (s 0) (s (suc j)) (s (suc (suc j))) <ℤ pos 0
  fan_next zero h = ch.bends 0 h
  fan_next (suc j) h =
      onward (rises 0 (suc (suc j)) (omega arith) (omega arith)) (ch.rising (suc j) (omega arith)) (ch.rising (suc (suc j)) h)
      (fan_next j (omega arith)) (ch.bends (suc j) h)

  pub fan : (i j : ℕ) → 0 < i → i < j → j < k → turn (s 0) (s i) (s j) <ℤ pos 0
  fan i zero o h l = absurd (omega arith)
  fan i (suc zero) o h l = absurd (omega arith)
  fan i (suc (suc j)) o h l = go (fan i (suc j) o) (dec_lt i (suc j))
    where
      go : (i < suc j → suc j < k → turn (s 0) (s i) (s (suc j)) <ℤ pos 0) → Dec (i < suc j) → turn (s 0) (s i) (s (suc (suc j))) <ℤ pos 0
      go f (yes p) =
          around (rises 0 i o (omega arith)) (rises 0 (suc j) (omega arith) (omega arith)) (rises 0 (suc (suc j)) (omega arith) l)
          (f p (omega arith)) (fan_next j l)
      go f (no p) = let e : i ≡ suc j = omega arith in rw e (fan_next j l)
