-- The alternative: vectors balance, or some direction has all of them strictly behind it. By induction on the list: a direction u for the rest, and a new vector w.
-- If w is not behind u, then either all of the rest lie strictly on one side of the line of w, and u is turned to that line and a little past it;
-- or one of them lies on each side, and w balances with those two. Assumes nothing.
use Prim.Native.Nat.{suc}
use mathlib.Core.Path.{◌≡◌, refl, ap}
use mathlib.Core.Logic.{◌⊎◌, inl, inr, ⊎_elim}
use mathlib.Core.List.{List, [], ◌∷◌}
use native.Mathlib.Omega.{arith}
use lib.IntN.{ℤ, pos, negsuc, ◌+ℤ◌, ◌*ℤ◌, ◌-ℤ◌, neg_ℤ, ℤ_discrete}
use lib.Signed.{◌≤ℤ◌, ◌<ℤ◌, ≤ℤ_refl}
use Rattle.integers.proofs.Expr.{◌⊕◌, ◌⊖◌, ◌⊗◌, ⊝◌, #◌, ◌≼◌, ◌≺◌, ◌≐◌, ◌⟹◌, bot, lit}
use Rattle.integers.proofs.Lin.{lin}
use Rattle.integers.proofs.Ring.{ring}
use Rattle.integers.proofs.Cert.{cert, hyp, eqn, num, less, ◌⊞◌, ◌⊠◌, ◌∵◌}
use Rattle.integers.proofs.Order.{lt_or_ge, <→≤, ≤-antisym, add_nn}
use Rattle.plane.specs.declared.Point.{Point}
use Rattle.plane.specs.Members.{All, none, ◌&◌, ◌∈◌, here, there}
use Rattle.plane.specs.Vectors.{along, Supported, Balanced, Separated}
use Rattle.plane.proofs.Lists.{first, all_at, all_imp, all_both, all_or}
use Rattle.plane.proofs.Combos.{balanced₂, balanced₃}
use Rattle.plane.proofs.Twins.{pt, alongᴱ, det, detᴱ}
use Rattle.plane.proofs.Winding.{length_pos}

-- t is more than 0, or else x is: then so is k t + x for a large k
abbrev pub Rises : (Point → ℤ) → (Point → ℤ) → Point → Type 0
Rises t x v = (pos 0 <ℤ t v) ⊎ ((t v ≡ pos 0) × (pos 0 <ℤ x v))

-- a larger multiple does too
grow : (t x : Point → ℤ) (k d : ℤ) → pos 0 ≤ℤ d → (v : Point) → Rises t x v → pos 0 <ℤ (k *ℤ t v +ℤ x v) → pos 0 <ℤ ((k +ℤ d) *ℤ t v +ℤ x v)
grow t x k d hd v (inl h) r = cert 0 4 (λ k d t x. # 0 ≼ d ⟹ # 0 ≺ t ⟹ # 0 ≺ k ⊗ t ⊕ x ⟹ # 0 ≺ (k ⊕ d) ⊗ t ⊕ x ∵ hyp 0 ⊠ hyp 1 ⊞ hyp 2) tt k d (t v) (x v) hd h r
grow t x k d hd v (inr h) r = cert 0 4 (λ k d t x. t ≐ # 0 ⟹ # 0 ≺ k ⊗ t ⊕ x ⟹ # 0 ≺ (k ⊕ d) ⊗ t ⊕ x ∵ hyp 1 ⊞ eqn 0 (⊝ d)) tt k d (t v) (x v) h.0 r

-- one k for every vector of a list
pub outgrow : (t x : Point → ℤ) {vs : List Point} → All (Rises t x) vs → (k : ℤ) × (pos 0 ≤ℤ k) × All (λ v. pos 0 <ℤ (k *ℤ t v +ℤ x v)) vs
outgrow t x none = (pos 0, ≤ℤ_refl (pos 0), none)
outgrow t x (◌&◌ {x = v} {l = vs} h hs) = go (outgrow t x hs) h (lt_or_ge (x v) (pos 0))
  where
    -- k and d more, d ≥ 0, is enough for v
    more : (r : (k : ℤ) × (pos 0 ≤ℤ k) × All (λ v. pos 0 <ℤ (k *ℤ t v +ℤ x v)) vs) (d : ℤ) → pos 0 ≤ℤ d → pos 0 <ℤ ((r.0 +ℤ d) *ℤ t v +ℤ x v)
        → (k : ℤ) × (pos 0 ≤ℤ k) × All (λ v. pos 0 <ℤ (k *ℤ t v +ℤ x v)) (v ∷ vs)
    more r d hd e = (r.0 +ℤ d, add_nn r.1 hd, e & all_both (λ u hu ku. grow t x r.0 d hd u hu ku) hs r.2)

    go : (k : ℤ) × (pos 0 ≤ℤ k) × All (λ v. pos 0 <ℤ (k *ℤ t v +ℤ x v)) vs → Rises t x v → (x v <ℤ pos 0) ⊎ (pos 0 ≤ℤ x v)
        → (k : ℤ) × (pos 0 ≤ℤ k) × All (λ v. pos 0 <ℤ (k *ℤ t v +ℤ x v)) (v ∷ vs)
    go r (inl h) (inl n) =
        more r (pos 1 -ℤ x v) (lin 0 1 (λ x. x ≺ # 0 ⟹ # 0 ≼ # 1 ⊖ x) (omega arith) (x v) n)
        (cert 0 3 (λ k t x. # 0 ≼ k ⟹ x ≺ # 0 ⟹ # 0 ≺ t ⟹ # 0 ≺ (k ⊕ (# 1 ⊖ x)) ⊗ t ⊕ x ∵ hyp 0 ⊠ hyp 2 ⊞ (num 1 ⊞ hyp 1) ⊠ less (hyp 2) ⊞ num 1) tt r.0 (t v) (x v) r.1 n h)
    go r (inl h) (inr n) =
        more r (pos 1) (record { le = tt })
        (cert 0 3 (λ k t x. # 0 ≼ k ⟹ # 0 ≼ x ⟹ # 0 ≺ t ⟹ # 0 ≺ (k ⊕ # 1) ⊗ t ⊕ x ∵ hyp 0 ⊠ hyp 2 ⊞ hyp 2 ⊞ hyp 1) tt r.0 (t v) (x v) r.1 n h)
    go r (inr h) n =
        more r (pos 0) (≤ℤ_refl (pos 0))
        (cert 0 3 (λ k t x. t ≐ # 0 ⟹ # 0 ≺ x ⟹ # 0 ≺ (k ⊕ # 0) ⊗ t ⊕ x ∵ hyp 1 ⊞ eqn 0 (⊝ k)) tt r.0 (t v) (x v) h.0 h.1)

-- ---- all of the rest on one side of the line of w: s is 1 or −1, the side. The direction k · s · (w.north, − w.east) − w, for a k large enough
turned : (s : ℤ) (w : Point) (vs : List Point) → ((w.east ≡ pos 0) × (w.north ≡ pos 0) → ⊥) → All (λ v. pos 0 <ℤ (s *ℤ det w v)) vs → Separated (w ∷ vs)
turned s w vs ne h = go (outgrow (λ v. s *ℤ det w v) (λ v. w.east *ℤ v.east +ℤ w.north *ℤ v.north) (all_imp (λ v k. inl k) h))
  where
    go : (k : ℤ) × (pos 0 ≤ℤ k) × All (λ v. pos 0 <ℤ (k *ℤ (s *ℤ det w v) +ℤ (w.east *ℤ v.east +ℤ w.north *ℤ v.north))) vs → Separated (w ∷ vs)
    go r =
        record {
          a = r.0 *ℤ (s *ℤ w.north) -ℤ w.east;
          b = neg_ℤ (r.0 *ℤ (s *ℤ w.east)) -ℤ w.north;
          behind =
              cert 1 2 (λ w s k. # 0 ≺ w.0 ⊗ w.0 ⊕ w.1 ⊗ w.1 ⟹ alongᴱ (k ⊗ (s ⊗ w.1) ⊖ w.0) (⊝ (k ⊗ (s ⊗ w.0)) ⊖ w.1) w ≺ # 0 ∵ hyp 0) tt (pt w) s r.0 (length_pos _ _ ne)
              & all_imp (λ v k. cert 2 2 (λ w v s k.
              # 0 ≺ k ⊗ (s ⊗ detᴱ w v) ⊕ (w.0 ⊗ v.0 ⊕ w.1 ⊗ v.1) ⟹ alongᴱ (k ⊗ (s ⊗ w.1) ⊖ w.0) (⊝ (k ⊗ (s ⊗ w.0)) ⊖ w.1) v ≺ # 0 ∵ hyp 0) tt (pt w) (pt v) s r.0 k) r.2;
        }

-- ---- one on each side: u·w ≥ 0, u·v < 0 and u·v' < 0, where u = (a, b). Then (−u·v) w + (u·w) v = [w v] · (−b, a), and so for v'
module _ (a b : ℤ) (w v v' : Point) {vs : List Point} (mv : v ∈ vs) (mv' : v' ∈ vs)
    (hw : pos 0 ≤ℤ along a b w) (hv : along a b v <ℤ pos 0) (hv' : along a b v' <ℤ pos 0) (side : det w v ≤ℤ pos 0) (side' : pos 0 ≤ℤ det w v') where
  on_line : det w v ≡ pos 0 → Balanced (w ∷ vs)
  on_line e =
      balanced₂ {u = w} {v = v} (neg_ℤ (along a b v)) (along a b w)
      (lin 0 1 (λ x. x ≺ # 0 ⟹ # 0 ≼ ⊝ x) (omega arith) _ hv) hw
      (lin 0 2 (λ x y. x ≺ # 0 ⟹ # 0 ≼ y ⟹ # 0 ≺ ⊝ x ⊕ y) (omega arith) _ _ hv hw)
      (here refl) (there mv)
      (cert 2 2 (λ w v a b. detᴱ w v ≐ # 0 ⟹ ⊝ alongᴱ a b v ⊗ w.0 ⊕ alongᴱ a b w ⊗ v.0 ≐ # 0 ∵ eqn 0 (⊝ b)) tt (pt w) (pt v) a b e)
      (cert 2 2 (λ w v a b. detᴱ w v ≐ # 0 ⟹ ⊝ alongᴱ a b v ⊗ w.1 ⊕ alongᴱ a b w ⊗ v.1 ≐ # 0 ∵ eqn 0 a) tt (pt w) (pt v) a b e)

  both_sides : det w v <ℤ pos 0 → Balanced (w ∷ vs)
  both_sides h =
      balanced₃ {u = w} {v = v} {w = v'} (neg_ℤ (along a b v) *ℤ det w v' +ℤ along a b v' *ℤ det w v) (along a b w *ℤ det w v') (neg_ℤ (along a b w *ℤ det w v))
      (cert 0 4 (λ x y s t. x ≺ # 0 ⟹ y ≺ # 0 ⟹ s ≺ # 0 ⟹ # 0 ≼ t ⟹ # 0 ≼ ⊝ x ⊗ t ⊕ y ⊗ s ∵ hyp 0 ⊠ hyp 3 ⊞ hyp 1 ⊠ hyp 2) tt _ _ _ _ hv hv' h side')
      (cert 0 2 (λ x t. # 0 ≼ x ⟹ # 0 ≼ t ⟹ # 0 ≼ x ⊗ t ∵ hyp 0 ⊠ hyp 1) tt _ _ hw side')
      (cert 0 2 (λ x s. # 0 ≼ x ⟹ s ≺ # 0 ⟹ # 0 ≼ ⊝ (x ⊗ s) ∵ hyp 0 ⊠ hyp 1) tt _ _ hw h)
      (cert 0 5 (λ x y z s t. x ≺ # 0 ⟹ y ≺ # 0 ⟹ s ≺ # 0 ⟹ # 0 ≼ t ⟹ # 0 ≼ z ⟹ # 0 ≺ (⊝ x ⊗ t ⊕ y ⊗ s) ⊕ z ⊗ t ⊕ ⊝ (z ⊗ s)
      ∵ hyp 0 ⊠ hyp 3 ⊞ hyp 1 ⊠ hyp 2 ⊞ hyp 4 ⊠ hyp 3 ⊞ hyp 4 ⊠ hyp 2) tt _ _ _ _ _ hv hv' h side' hw)
      (here refl) (there mv) (there mv')
      (ring 3 2 (λ w v v' a b. (⊝ alongᴱ a b v ⊗ detᴱ w v' ⊕ alongᴱ a b v' ⊗ detᴱ w v) ⊗ w.0 ⊕ alongᴱ a b w ⊗ detᴱ w v' ⊗ v.0 ⊕ ⊝ (alongᴱ a b w ⊗ detᴱ w v) ⊗ v'.0 ≐ # 0) tt (pt w) (pt v) (pt v') a b)
      (ring 3 2 (λ w v v' a b. (⊝ alongᴱ a b v ⊗ detᴱ w v' ⊕ alongᴱ a b v' ⊗ detᴱ w v) ⊗ w.1 ⊕ alongᴱ a b w ⊗ detᴱ w v' ⊗ v.1 ⊕ ⊝ (alongᴱ a b w ⊗ detᴱ w v) ⊗ v'.1 ≐ # 0) tt (pt w) (pt v) (pt v') a b)

  astride : Balanced (w ∷ vs)
  astride = go (lt_or_ge (det w v) (pos 0))
    where
      go : (det w v <ℤ pos 0) ⊎ (pos 0 ≤ℤ det w v) → Balanced (w ∷ vs)
      go (inl h) = both_sides h
      go (inr h) = on_line (≤-antisym side h)

-- ---- the alternative

zero_balanced : (w : Point) (vs : List Point) → w.east ≡ pos 0 → w.north ≡ pos 0 → Balanced (w ∷ vs)
zero_balanced w vs e f =
    balanced₂ {u = w} {v = w} (pos 1) (pos 0) (record { le = tt }) (record { le = tt }) (record { lt = tt }) (here refl) (here refl)
    (lin 0 1 (λ x. x ≐ # 0 ⟹ # 1 ⊗ x ⊕ # 0 ⊗ x ≐ # 0) (omega arith) _ e) (lin 0 1 (λ x. x ≐ # 0 ⟹ # 1 ⊗ x ⊕ # 0 ⊗ x ≐ # 0) (omega arith) _ f)

pub zero_or_not : (w : Point) → ((w.east ≡ pos 0) × (w.north ≡ pos 0)) ⊎ ((w.east ≡ pos 0) × (w.north ≡ pos 0) → ⊥)
zero_or_not w = go (ℤ_discrete w.east (pos 0)) (ℤ_discrete w.north (pos 0))
  where
    go : Dec (w.east ≡ pos 0) → Dec (w.north ≡ pos 0) → ((w.east ≡ pos 0) × (w.north ≡ pos 0)) ⊎ ((w.east ≡ pos 0) × (w.north ≡ pos 0) → ⊥)
    go (yes e) (yes f) = inl (e, f)
    go (yes e) (no f) = inr (λ z. f z.1)
    go (no e) f = inr (λ z. e z.0)

-- a balance of the rest, with no weight for w
also_balanced : (w : Point) (vs : List Point) → Balanced vs → Balanced (w ∷ vs)
also_balanced w vs h =
    record {
      weights = 0 ∷ h.weights;
      one_each = ap suc h.one_each;
      some_weight = omega (arith, h.some_weight);
      east_sum = lin 0 2 (λ x s. s ≐ # 0 ⟹ # 0 ⊗ x ⊕ s ≐ # 0) (omega arith) w.east _ h.east_sum;
      north_sum = lin 0 2 (λ x s. s ≐ # 0 ⟹ # 0 ⊗ x ⊕ s ≐ # 0) (omega arith) w.north _ h.north_sum;
    }

next : (w : Point) (vs : List Point) → Separated vs → Balanced (w ∷ vs) ⊎ Separated (w ∷ vs)
next w vs u = start (lt_or_ge (along u.a u.b w) (pos 0)) (zero_or_not w)
  where
    sides : pos 0 ≤ℤ along u.a u.b w → ((w.east ≡ pos 0) × (w.north ≡ pos 0) → ⊥)
        → All (λ v. pos 0 <ℤ (pos 1 *ℤ det w v)) vs ⊎ ((v : Point) × (v ∈ vs) × ((pos 1 *ℤ det w v) ≤ℤ pos 0))
        → All (λ v. pos 0 <ℤ (negsuc 0 *ℤ det w v)) vs ⊎ ((v : Point) × (v ∈ vs) × ((negsuc 0 *ℤ det w v) ≤ℤ pos 0))
        → Balanced (w ∷ vs) ⊎ Separated (w ∷ vs)
    sides hw ne (inl h) k = inr (turned (pos 1) w vs ne h)
    sides hw ne (inr h) (inl k) = inr (turned (negsuc 0) w vs ne k)
    sides hw ne (inr h) (inr k) =
        inl (astride u.a u.b w h.0 k.0 h.1 k.1 hw (all_at u.behind h.1) (all_at u.behind k.1)
        (lin 0 1 (λ x. # 1 ⊗ x ≼ # 0 ⟹ x ≼ # 0) (omega arith) _ h.2) (lin 0 1 (λ x. lit (negsuc 0) ⊗ x ≼ # 0 ⟹ # 0 ≼ x) (omega arith) _ k.2))

    start : (along u.a u.b w <ℤ pos 0) ⊎ (pos 0 ≤ℤ along u.a u.b w)
        → ((w.east ≡ pos 0) × (w.north ≡ pos 0)) ⊎ ((w.east ≡ pos 0) × (w.north ≡ pos 0) → ⊥) → Balanced (w ∷ vs) ⊎ Separated (w ∷ vs)
    start (inl h) z = inr (record { a = u.a; b = u.b; behind = h & u.behind })
    start (inr h) (inl z) = inl (zero_balanced w vs z.0 z.1)
    start (inr h) (inr z) = sides h z (all_or vs (λ v m. lt_or_ge (pos 0) (pos 1 *ℤ det w v))) (all_or vs (λ v m. lt_or_ge (pos 0) (negsuc 0 *ℤ det w v)))

pub alternative : (vs : List Point) → Balanced vs ⊎ Separated vs
alternative [] = inr (record { a = pos 0; b = pos 0; behind = none })
alternative (w ∷ vs) = ⊎_elim (λ h. inl (also_balanced w vs h)) (next w vs) (alternative vs)

-- ---- strictly separated vectors are supported

pub separated_supported : (vs : List Point) → Separated vs → Supported vs
separated_supported [] s = record { a = pos 1; b = pos 0; nonzero = λ z. lin 0 0 (# 1 ≐ # 0 ⟹ bot) (omega arith) z.0; behind = none }
separated_supported (v ∷ vs) s =
    record {
      a = s.a;
      b = s.b;
      nonzero = λ z. cert 0 4 (λ a b x y. a ≐ # 0 ⟹ b ≐ # 0 ⟹ a ⊗ x ⊕ b ⊗ y ≺ # 0 ⟹ bot ∵ hyp 2 ⊞ eqn 0 (⊝ x) ⊞ eqn 1 (⊝ y)) tt _ _ v.east v.north z.0 z.1 (first s.behind);
      behind = all_imp (λ v h. <→≤ h) s.behind;
    }
