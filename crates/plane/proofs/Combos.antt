-- A combination of vectors: natural weights, one for each vector of a list, with the sum that they make. Combinations are made of multiples of members and
-- added, and one whose sum is zero balances the list. Assumes nothing.
use Prim.Native.Nat.{ℕ, zero, suc, ◌+◌, ◌<◌}
use mathlib.Core.Path.{◌≡◌, refl, sym, ◌∙◌, ap, ap₂, subst}
use mathlib.Core.List.{List, [], ◌∷◌}
use native.Mathlib.Omega.{arith}
use Rattle.std.proofs.lemmas.Int.{ints}
use lib.Dec.{ltb→lt, lt→ltb}
use lib.IntN.{ℤ, pos, negsuc, ◌+ℤ◌, ◌*ℤ◌, pos-+ℤ-pos}
use lib.Signed.{◌≤ℤ◌, ◌<ℤ◌, ≤ℤ_refl}
use lib.ListN.{length}
use Rattle.integers.proofs.Expr.{◌⊕◌, ◌⊗◌, #◌, ◌≼◌, ◌≺◌, ◌≐◌, ◌⟹◌, bot}
use Rattle.integers.proofs.Lin.{lin}
use Rattle.integers.proofs.Ring.{ring}
use Rattle.integers.proofs.Cert.{cert, hyp, ◌⊞◌, ◌⊠◌, ◌∵◌}
use Rattle.integers.proofs.Order.{pos_nn}
use Rattle.plane.specs.declared.Point.{Point}
use Rattle.plane.specs.Members.{All, none, ◌&◌, ◌∈◌, here, there}
use Rattle.plane.specs.Vectors.{Separated, along, total, weighted, Balanced}

-- weights of the vectors vs that total t and make the sum (x, y)
pub record Combo (vs : List Point) (x y t : ℤ) : Type 0 where
  pub weights : List ℕ
  pub one_each : length weights ≡ length vs
  pub total_is : pos (total weights) ≡ t
  pub east_is : weighted (λ v. v.east) weights vs ≡ x
  pub north_is : weighted (λ v. v.north) weights vs ≡ y

-- ---- none, a multiple of a member, a sum

-- one more vector, with the weight n
more : (n : ℕ) (v : Point) {vs : List Point} {x y t x' y' t' : ℤ} → Combo vs x y t → pos n *ℤ v.east +ℤ x ≡ x' → pos n *ℤ v.north +ℤ y ≡ y' → pos n +ℤ t ≡ t'
    → Combo (v ∷ vs) x' y' t'
more n v c e f g =
    record {
      weights = n ∷ c.weights;
      one_each = ap suc c.one_each;
      total_is = omega (arith, ints, c.total_is);
      east_is = ap (λ s. pos n *ℤ v.east +ℤ s) c.east_is ∙ e;
      north_is = ap (λ s. pos n *ℤ v.north +ℤ s) c.north_is ∙ f;
    }

none_of : (vs : List Point) → Combo vs (pos 0) (pos 0) (pos 0)
none_of [] = record { weights = []; one_each = refl; total_is = refl; east_is = refl; north_is = refl }
none_of (v ∷ vs) = more 0 v (none_of vs) (omega (arith, ints)) (omega (arith, ints)) refl

pub nothing : {vs : List Point} → Combo vs (pos 0) (pos 0) (pos 0)
nothing {vs} = none_of vs

-- k times a member, k ≥ 0
pub times : {v : Point} {vs : List Point} (k : ℤ) → pos 0 ≤ℤ k → v ∈ vs → Combo vs (k *ℤ v.east) (k *ℤ v.north) k
times (pos n) h (here {y = u} {l = vs} e) =
    more n u (none_of vs) (rw e (omega (arith, ints))) (rw e (omega (arith, ints))) (omega (arith, ints))
times (pos n) h (there {y = u} m) = more 0 u (times (pos n) h m) (omega (arith, ints)) (omega (arith, ints)) (omega (arith, ints))
times (negsuc n) h m = absurd h.le

abbrev add : List ℕ → List ℕ → List ℕ
add [] us = us
add (w ∷ ws) [] = w ∷ ws
add (w ∷ ws) (u ∷ us) = (w + u) ∷ add ws us

add_length : (vs : List Point) (ws us : List ℕ) → length ws ≡ length vs → length us ≡ length vs → length (add ws us) ≡ length vs
add_length vs [] us h k = k
add_length vs (w ∷ ws) [] h k = h
add_length [] (w ∷ ws) (u ∷ us) h k = absurd (omega arith)
add_length (v ∷ vs) (w ∷ ws) (u ∷ us) h k = ap suc (add_length vs ws us (omega arith) (omega arith))

add_total : (ws us : List ℕ) → total (add ws us) ≡ total ws + total us
add_total [] us = omega arith
add_total (w ∷ ws) [] = omega arith
add_total (w ∷ ws) (u ∷ us) = omega (arith, add_total ws us)

add_weighted : (f : Point → ℤ) (vs : List Point) (ws us : List ℕ) → weighted f (add ws us) vs ≡ weighted f ws vs +ℤ weighted f us vs
add_weighted f vs [] us = ring 0 1 (λ x. x ≐ # 0 ⊕ x) tt _
add_weighted f vs (w ∷ ws) [] = ring 0 1 (λ x. x ≐ x ⊕ # 0) tt _
add_weighted f [] (w ∷ ws) (u ∷ us) = refl
add_weighted f (v ∷ vs) (w ∷ ws) (u ∷ us) =
    ap (λ k. k *ℤ f v +ℤ weighted f (add ws us) vs) (sym (pos-+ℤ-pos w u)) ∙
    lin 0 6 (λ w u x s t r. r ≐ s ⊕ t ⟹ (w ⊕ u) ⊗ x ⊕ r ≐ (w ⊗ x ⊕ s) ⊕ (u ⊗ x ⊕ t)) (omega arith) (pos w) (pos u) (f v) _ _ _ (add_weighted f vs ws us)

infixl 66 ◌plus◌
pub ◌plus◌ : {vs : List Point} {x y t x' y' t' : ℤ} → Combo vs x y t → Combo vs x' y' t' → Combo vs (x +ℤ x') (y +ℤ y') (t +ℤ t')
◌plus◌ {vs} c d =
    record {
      weights = add c.weights d.weights;
      one_each = add_length vs c.weights d.weights c.one_each d.one_each;
      total_is = ap pos (add_total c.weights d.weights) ∙ sym (pos-+ℤ-pos _ _) ∙ ap₂ ◌+ℤ◌ c.total_is d.total_is;
      east_is = add_weighted (λ v. v.east) vs c.weights d.weights ∙ ap₂ ◌+ℤ◌ c.east_is d.east_is;
      north_is = add_weighted (λ v. v.north) vs c.weights d.weights ∙ ap₂ ◌+ℤ◌ c.north_is d.north_is;
    }

-- ---- a combination that is zero

pub balanced : {vs : List Point} {x y t : ℤ} → Combo vs x y t → x ≡ pos 0 → y ≡ pos 0 → pos 0 <ℤ t → Balanced vs
balanced c ex ey ht =
    record {
      weights = c.weights;
      one_each = c.one_each;
      some_weight = ltb→lt 0 _ (subst (λ t. pos 0 <ℤ t) (sym c.total_is) ht).lt;
      east_sum = c.east_is ∙ ex;
      north_sum = c.north_is ∙ ey;
    }

-- two, and three, members that balance
pub balanced₂ : {vs : List Point} {u v : Point} (α β : ℤ) → pos 0 ≤ℤ α → pos 0 ≤ℤ β → pos 0 <ℤ (α +ℤ β) → u ∈ vs → v ∈ vs
    → α *ℤ u.east +ℤ β *ℤ v.east ≡ pos 0 → α *ℤ u.north +ℤ β *ℤ v.north ≡ pos 0 → Balanced vs
balanced₂ α β hα hβ h mu mv ex ey = balanced (times α hα mu plus times β hβ mv) ex ey h

pub balanced₃ : {vs : List Point} {u v w : Point} (α β γ : ℤ) → pos 0 ≤ℤ α → pos 0 ≤ℤ β → pos 0 ≤ℤ γ → pos 0 <ℤ (α +ℤ β +ℤ γ)
    → u ∈ vs → v ∈ vs → w ∈ vs
    → α *ℤ u.east +ℤ β *ℤ v.east +ℤ γ *ℤ w.east ≡ pos 0 → α *ℤ u.north +ℤ β *ℤ v.north +ℤ γ *ℤ w.north ≡ pos 0 → Balanced vs
balanced₃ α β γ hα hβ hγ h mu mv mw ex ey = balanced (times α hα mu plus times β hβ mv plus times γ hγ mw) ex ey h

-- ---- the sum along a direction; strictly separated vectors do not balance

pub weighted_along : (a b : ℤ) (ws : List ℕ) (vs : List Point)
    → weighted (along a b) ws vs ≡ a *ℤ weighted (λ v. v.east) ws vs +ℤ b *ℤ weighted (λ v. v.north) ws vs
weighted_along a b [] vs = ring 0 2 (λ a b. # 0 ≐ a ⊗ # 0 ⊕ b ⊗ # 0) tt a b
weighted_along a b (w ∷ ws) [] = ring 0 2 (λ a b. # 0 ≐ a ⊗ # 0 ⊕ b ⊗ # 0) tt a b
weighted_along a b (w ∷ ws) (v ∷ vs) =
    ap (λ s. pos w *ℤ along a b v +ℤ s) (weighted_along a b ws vs) ∙
    ring 0 7 (λ a b w x y s t. w ⊗ (a ⊗ x ⊕ b ⊗ y) ⊕ (a ⊗ s ⊕ b ⊗ t) ≐ a ⊗ (w ⊗ x ⊕ s) ⊕ b ⊗ (w ⊗ y ⊕ t)) tt a b (pos w) v.east v.north _ _

-- a sum of parts less than 0 is less than 0, where some weight is more than 0
weighted_np : (f : Point → ℤ) (ws : List ℕ) {vs : List Point} → All (λ v. f v <ℤ pos 0) vs → weighted f ws vs ≤ℤ pos 0
weighted_np f [] h = ≤ℤ_refl (pos 0)
weighted_np f (w ∷ ws) none = ≤ℤ_refl (pos 0)
weighted_np f (w ∷ ws) (h & k) =
    cert 0 3 (λ w x s. # 0 ≼ w ⟹ x ≺ # 0 ⟹ s ≼ # 0 ⟹ w ⊗ x ⊕ s ≼ # 0 ∵ hyp 0 ⊠ hyp 1 ⊞ hyp 2) tt _ _ _ (pos_nn w) h (weighted_np f ws k)

weighted_neg : (f : Point → ℤ) (ws : List ℕ) {vs : List Point} → length ws ≡ length vs → 0 < total ws → All (λ v. f v <ℤ pos 0) vs → weighted f ws vs <ℤ pos 0
weighted_neg f [] e t h = absurd (omega arith)
weighted_neg f (w ∷ ws) e t none = absurd (omega arith)
weighted_neg f (zero ∷ ws) e t (◌&◌ {x = v} h k) =
    lin 0 2 (λ x s. s ≺ # 0 ⟹ # 0 ⊗ x ⊕ s ≺ # 0) (omega arith) (f v) _ (weighted_neg f ws (omega arith) (omega arith) k)
weighted_neg f (suc w ∷ ws) e t (h & k) =
    cert 0 3 (λ w x s. # 0 ≺ w ⟹ x ≺ # 0 ⟹ s ≼ # 0 ⟹ w ⊗ x ⊕ s ≺ # 0 ∵ hyp 0 ⊠ hyp 1 ⊞ hyp 2) tt (pos (suc w)) _ _ (record { lt = lt→ltb 0 (suc w) (omega arith) }) h (weighted_np f ws k)

pub separated_not_balanced : {vs : List Point} → Separated vs → Balanced vs → ⊥
separated_not_balanced {vs} s h =
    lin 0 3 (λ a b z. z ≐ a ⊗ # 0 ⊕ b ⊗ # 0 ⟹ z ≺ # 0 ⟹ bot) (omega arith) s.a s.b (weighted (along s.a s.b) h.weights vs)
    (weighted_along s.a s.b h.weights vs ∙ ap₂ (λ x y. s.a *ℤ x +ℤ s.b *ℤ y) h.east_sum h.north_sum)
    (weighted_neg (along s.a s.b) h.weights h.one_each h.some_weight s.behind)
