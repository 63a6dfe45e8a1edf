-- Keys reflected through the datum (turns/proofs/Reflection), in lists: from the last to the first they are in order, and every turn is kept. Assumes nothing.
use mathlib.Core.Path.{◌≡◌, sym, ap, ◌∙◌, subst}
use Prim.Native.Nat.{ℕ, suc, ◌+◌, ◌-◌, ◌≤◌, ◌<◌}
use native.Mathlib.Omega.{arith}
use Rattle.orders.specs.Order.{Sorted}
use Rattle.turns.specs.Keys.{IsKey, AllKeys}
use Rattle.turns.specs.Reflection.{reflected}
use Rattle.turns.proofs.Reflection.{reflected_key, reflected_twice, reflected_le, reflected_area}
use Rattle.chains.specs.Chains.{turn}

-- ---- three keys

pub reflected_turn : {a b c : ℕ} → IsKey a → IsKey b → IsKey c → turn (reflected a) (reflected b) (reflected c) ≡ turn a b c
unfolding turn
reflected_turn ha hb hc = reflected_area ha hb hc

-- ---- lists of keys

-- f holds the m keys of q, each reflected, from the last to the first
pub record Mirrors (q : ℕ → ℕ) (m : ℕ) (f : ℕ → ℕ) : Type 0 where
  pub is : (i j : ℕ) → suc (i + j) ≡ m → f i ≡ reflected (q j)

module _ (q : ℕ → ℕ) (m : ℕ) (f : ℕ → ℕ) (ks : AllKeys q m) (mi : Mirrors q m f) where
  pub mirror_keys : AllKeys f m
  mirror_keys = record { key = λ i h. subst IsKey (sym (mi.is i (m - suc i) (omega arith))) (reflected_key (ks.key (m - suc i) (omega arith))) }

  pub mirror_sorted : Sorted q 0 m → Sorted f 0 m
  mirror_sorted s = record { le = λ i j a b c. le i j b c }
    where
      le : (i j : ℕ) → i ≤ j → j < m → f i ≤ f j
      le i j b c =
          let k = s.le (m - suc j) (m - suc i) (omega arith) (omega arith) (omega arith) in
          rw (mi.is i (m - suc i) (omega arith), mi.is j (m - suc j) (omega arith)) (reflected_le k)

  -- and so back
  pub mirror_back : (i j : ℕ) → suc (i + j) ≡ m → reflected (f i) ≡ q j
  mirror_back i j e = ap reflected (mi.is i j e) ∙ reflected_twice (ks.key j (omega arith))
