-- Whether some direction supports a list of vectors can be told from the vectors themselves: if one does, then, unless all vectors are zero, one of them
-- has all the others on one side of its line, or on it. Assumes nothing.
use mathlib.Core.Path.{◌≡◌, refl}
use mathlib.Core.Logic.{◌⊎◌, inl, inr, ⊎_elim}
use mathlib.Core.List.{List, [], ◌∷◌}
use native.Mathlib.Omega.{arith}
use lib.IntN.{ℤ, pos, negsuc, ◌+ℤ◌, ◌*ℤ◌, neg_ℤ}
use lib.Signed.{◌≤ℤ◌, ◌<ℤ◌}
use Rattle.integers.proofs.Expr.{◌⊕◌, ◌⊗◌, ⊝◌, #◌, ◌≼◌, ◌≺◌, ◌≐◌, ◌⟹◌, bot}
use Rattle.integers.proofs.Lin.{lin}
use Rattle.integers.proofs.Cert.{cert, hyp, num, eqn, ◌⊞◌, ◌⊠◌, ◌∵◌, ◌∵◌÷◌}
use Rattle.integers.proofs.Order.{lt_or_ge, <→≤, ≤-antisym, mul_zero, ≤-dec}
use Rattle.plane.specs.declared.Point.{Point}
use Rattle.plane.specs.Members.{All, none, ◌&◌, ◌∈◌, here, there}
use Rattle.plane.specs.Vectors.{along, Supported}
use Rattle.plane.proofs.Lists.{all_at, all_imp, all_both, all_or}
use Rattle.plane.proofs.Twins.{pt, alongᴱ, det, detᴱ}
use Rattle.plane.proofs.Winding.{length_pos}
use Rattle.plane.proofs.Alternative.{zero_or_not}

abbrev Zero : Point → Type 0
Zero v = (v.east ≡ pos 0) × (v.north ≡ pos 0)

-- v is not zero, and all are left of its line or on it (s is 1), or all right of it or on it (s is −1)
abbrev Edge : ℤ → List Point → Point → Type 0
Edge s vs v = (Zero v → ⊥) × All (λ x. pos 0 ≤ℤ (s *ℤ det v x)) vs

-- ---- the test shows support

edge_supports : (s : ℤ) → (s ≡ pos 0 → ⊥) → (vs : List Point) (v : Point) → Edge s vs v → Supported vs
edge_supports s hs vs v h =
    record {
      a = s *ℤ v.north;
      b = neg_ℤ (s *ℤ v.east);
      nonzero = λ z. h.0 (⊎_elim (λ e. absurd (hs e)) (λ e. e) (mul_zero s v.east (lin 0 1 (λ x. ⊝ x ≐ # 0 ⟹ x ≐ # 0) (omega arith) _ z.1)), ⊎_elim (λ e. absurd (hs e)) (λ e. e) (mul_zero s v.north z.0));
      behind = all_imp (λ x k. cert 2 1 (λ v x s. # 0 ≼ s ⊗ detᴱ v x ⟹ alongᴱ (s ⊗ v.1) (⊝ (s ⊗ v.0)) x ≼ # 0 ∵ hyp 0) tt (pt v) (pt x) s k) h.1;
    }

zero_supports : (vs : List Point) → All Zero vs → Supported vs
zero_supports vs h =
    record {
      a = pos 1;
      b = pos 0;
      nonzero = λ z. lin 0 0 (# 1 ≐ # 0 ⟹ bot) (omega arith) z.0;
      behind = all_imp (λ x k. lin 1 0 (λ x. x.0 ≐ # 0 ⟹ x.1 ≐ # 0 ⟹ # 1 ⊗ x.0 ⊕ # 0 ⊗ x.1 ≼ # 0) (omega arith) (pt x) k.0 k.1) h;
    }

-- ---- support shows the test

module _ (a b : ℤ) (l : pos 0 <ℤ (a *ℤ a +ℤ b *ℤ b)) where
  abbrev Behind : Point → Type 0
  Behind v = along a b v ≤ℤ pos 0

  -- all zero or strictly behind, or some vector on the line that is not zero
  on_line : (vs : List Point) → All Behind vs → All (λ v. Zero v ⊎ (along a b v <ℤ pos 0)) vs ⊎ ((v : Point) × (v ∈ vs) × ((along a b v ≡ pos 0) × (Zero v → ⊥)))
  on_line vs h = all_or vs (λ v m. go v m (lt_or_ge (along a b v) (pos 0)) (zero_or_not v))
    where
      go : (v : Point) → v ∈ vs → (along a b v <ℤ pos 0) ⊎ (pos 0 ≤ℤ along a b v) → Zero v ⊎ (Zero v → ⊥)
          → (Zero v ⊎ (along a b v <ℤ pos 0)) ⊎ ((along a b v ≡ pos 0) × (Zero v → ⊥))
      go v m (inl k) z = inl (inr k)
      go v m (inr k) (inl z) = inl (inl z)
      go v m (inr k) (inr z) = inr (≤-antisym (all_at h m) k, z)

  -- one on the line, v = c (−b, a) / |u|², has the others on its side: [v x] |u|² = − c (u·x)
  edge_on_line : (vs : List Point) (v : Point) → All Behind vs → along a b v ≡ pos 0 → (Zero v → ⊥) → Edge (pos 1) vs v ⊎ Edge (negsuc 0) vs v
  edge_on_line vs v h e nz = go (lt_or_ge (along (neg_ℤ b) a v) (pos 0))
    where
      go : (along (neg_ℤ b) a v <ℤ pos 0) ⊎ (pos 0 ≤ℤ along (neg_ℤ b) a v) → Edge (pos 1) vs v ⊎ Edge (negsuc 0) vs v
      go (inl k) = inr (
        nz,
        all_imp (λ x hx. cert 2 2 (λ v x a b.
            # 0 ≺ a ⊗ a ⊕ b ⊗ b ⟹ alongᴱ a b v ≐ # 0 ⟹ alongᴱ (⊝ b) a v ≺ # 0 ⟹ alongᴱ a b x ≼ # 0 ⟹ # 0 ≼ ⊝ # 1 ⊗ detᴱ v x
            ∵ hyp 2 ⊠ hyp 3 ⊞ eqn 1 (alongᴱ (⊝ b) a x) ÷ hyp 0) tt (pt v) (pt x) a b l e k hx) h,
      )
      go (inr k) = inl (
        nz,
        all_imp (λ x hx. cert 2 2 (λ v x a b.
            # 0 ≺ a ⊗ a ⊕ b ⊗ b ⟹ alongᴱ a b v ≐ # 0 ⟹ # 0 ≼ alongᴱ (⊝ b) a v ⟹ alongᴱ a b x ≼ # 0 ⟹ # 0 ≼ # 1 ⊗ detᴱ v x
            ∵ hyp 2 ⊠ hyp 3 ⊞ eqn 1 (⊝ alongᴱ (⊝ b) a x) ÷ hyp 0) tt (pt v) (pt x) a b l e k hx) h,
      )

  -- none on the line: the one farthest to the right of all
  rightmost : (vs : List Point) → All (λ v. Zero v ⊎ (along a b v <ℤ pos 0)) vs → All Zero vs ⊎ ((v : Point) × (v ∈ vs) × (along a b v <ℤ pos 0) × All (λ x. pos 0 ≤ℤ (pos 1 *ℤ det v x)) vs)
  rightmost [] h = inl none
  rightmost (w ∷ vs) (h & hs) = go h (rightmost vs hs)
    where
      -- of a vector that is zero, and of w itself
      zero_area : (v x : Point) → Zero x → pos 0 ≤ℤ (pos 1 *ℤ det v x)
      zero_area v x z = cert 2 0 (λ v x. x.0 ≐ # 0 ⟹ x.1 ≐ # 0 ⟹ # 0 ≼ # 1 ⊗ detᴱ v x ∵ eqn 0 v.1 ⊞ eqn 1 (⊝ v.0)) tt (pt v) (pt x) z.0 z.1

      self_area : pos 0 ≤ℤ (pos 1 *ℤ det w w)
      self_area = cert 1 0 (λ w. # 0 ≼ # 1 ⊗ detᴱ w w ∵ num 0) tt (pt w)

      behind : (x : Point) → Zero x ⊎ (along a b x <ℤ pos 0) → Behind x
      behind x (inl z) = cert 1 2 (λ x a b. x.0 ≐ # 0 ⟹ x.1 ≐ # 0 ⟹ alongᴱ a b x ≼ # 0 ∵ eqn 0 a ⊞ eqn 1 b) tt (pt x) a b z.0 z.1
      behind x (inr k) = <→≤ k

      go : Zero w ⊎ (along a b w <ℤ pos 0) → All Zero vs ⊎ ((v : Point) × (v ∈ vs) × (along a b v <ℤ pos 0) × All (λ x. pos 0 ≤ℤ (pos 1 *ℤ det v x)) vs)
          → All Zero (w ∷ vs) ⊎ ((v : Point) × (v ∈ (w ∷ vs)) × (along a b v <ℤ pos 0) × All (λ x. pos 0 ≤ℤ (pos 1 *ℤ det v x)) (w ∷ vs))
      go (inl z) (inl r) = inl (z & r)
      go (inl z) (inr r) = inr (r.0, there r.1, r.2, zero_area r.0 w z & r.3)
      go (inr k) (inl r) = inr (w, here refl, k, self_area & all_imp (λ x z. zero_area w x z) r)
      go (inr k) (inr (v, m, hv, r)) = which (lt_or_ge (pos 1 *ℤ det v w) (pos 0))
        where
          which : ((pos 1 *ℤ det v w) <ℤ pos 0) ⊎ (pos 0 ≤ℤ (pos 1 *ℤ det v w))
              → All Zero (w ∷ vs) ⊎ ((v : Point) × (v ∈ (w ∷ vs)) × (along a b v <ℤ pos 0) × All (λ x. pos 0 ≤ℤ (pos 1 *ℤ det v x)) (w ∷ vs))
          which (inr j) = inr (v, there m, hv, j & r)
          which (inl j) = inr (
            w,
            here refl,
            k,
            self_area & all_both (λ x hx rx. cert 3 2 (λ v w x a b.
                alongᴱ a b v ≺ # 0 ⟹ alongᴱ a b w ≺ # 0 ⟹ alongᴱ a b x ≼ # 0 ⟹ # 1 ⊗ detᴱ v w ≺ # 0 ⟹ # 0 ≼ # 1 ⊗ detᴱ v x ⟹ # 0 ≼ # 1 ⊗ detᴱ w x
                ∵ hyp 1 ⊠ hyp 4 ⊞ hyp 2 ⊠ hyp 3 ÷ hyp 0) tt (pt v) (pt w) (pt x) a b hv k (behind x hx) j rx) hs r,
          )

  -- all are zero, or one is an edge
  supported_edge : (vs : List Point) → All Behind vs → All Zero vs ⊎ ((v : Point) × (v ∈ vs) × (Edge (pos 1) vs v ⊎ Edge (negsuc 0) vs v))
  supported_edge vs h = go (on_line vs h)
    where
      not_zero : (v : Point) → along a b v <ℤ pos 0 → Zero v → ⊥
      not_zero v k z = cert 1 2 (λ v a b. alongᴱ a b v ≺ # 0 ⟹ v.0 ≐ # 0 ⟹ v.1 ≐ # 0 ⟹ bot ∵ hyp 0 ⊞ eqn 1 (⊝ a) ⊞ eqn 2 (⊝ b)) tt (pt v) a b k z.0 z.1

      go : All (λ v. Zero v ⊎ (along a b v <ℤ pos 0)) vs ⊎ ((v : Point) × (v ∈ vs) × ((along a b v ≡ pos 0) × (Zero v → ⊥)))
          → All Zero vs ⊎ ((v : Point) × (v ∈ vs) × (Edge (pos 1) vs v ⊎ Edge (negsuc 0) vs v))
      go (inr r) = inr (r.0, r.1, edge_on_line vs r.0 h r.2.0 r.2.1)
      go (inl k) = ⊎_elim inl (λ r. inr (r.0, r.1, inl (not_zero r.0 r.2, r.3))) (rightmost vs k)

-- ---- so support is decided

-- a test of every element
some_or_none : {P : Point → Type 0} → ((v : Point) → Dec (P v)) → (l : List Point) → ((v : Point) × (v ∈ l) × P v) ⊎ ((v : Point) → v ∈ l → P v → ⊥)
some_or_none {P} d l = ⊎_elim (λ h. inr (λ v m. all_at h m)) inl (all_or {P = λ v. P v → ⊥} l (λ v m. elim (d v) [ yes h ↦ inr h | no n ↦ inl n ]))

all_dec : {P : Point → Type 0} → ((v : Point) → Dec (P v)) → (l : List Point) → Dec (All P l)
all_dec {P} d l = ⊎_elim yes (λ r. no (λ h. r.2 (all_at h r.1))) (all_or {P = P} {Q = λ v. P v → ⊥} l (λ v m. elim (d v) [ yes h ↦ inl h | no n ↦ inr n ]))

edge_dec : (s : ℤ) (vs : List Point) (v : Point) → Dec (Edge s vs v)
edge_dec s vs v = go (zero_or_not v) (all_dec {P = λ x. pos 0 ≤ℤ (s *ℤ det v x)} (λ x. ≤-dec (pos 0) (s *ℤ det v x)) vs)
  where
    go : Zero v ⊎ (Zero v → ⊥) → Dec (All (λ x. pos 0 ≤ℤ (s *ℤ det v x)) vs) → Dec (Edge s vs v)
    go (inl z) k = no (λ h. h.0 z)
    go (inr z) (yes k) = yes (z, k)
    go (inr z) (no k) = no (λ h. k h.1)

zero_dec : (v : Point) → Dec (Zero v)
zero_dec v = ⊎_elim yes no (zero_or_not v)

pub supported_dec : (vs : List Point) → Dec (Supported vs)
supported_dec vs = go (all_dec zero_dec vs) (some_or_none (edge_dec (pos 1) vs) vs) (some_or_none (edge_dec (negsuc 0) vs) vs)
  where
    go : Dec (All Zero vs) → ((v : Point) × (v ∈ vs) × Edge (pos 1) vs v) ⊎ ((v : Point) → v ∈ vs → Edge (pos 1) vs v → ⊥)
        → ((v : Point) × (v ∈ vs) × Edge (negsuc 0) vs v) ⊎ ((v : Point) → v ∈ vs → Edge (negsuc 0) vs v → ⊥) → Dec (Supported vs)
    go (yes z) l r = yes (zero_supports vs z)
    go (no z) (inl l) r = yes (edge_supports (pos 1) (λ e. lin 0 0 (# 1 ≐ # 0 ⟹ bot) (omega arith) e) vs l.0 l.2)
    go (no z) (inr l) (inl r) = yes (edge_supports (negsuc 0) (λ e. lin 0 0 (⊝ # 1 ≐ # 0 ⟹ bot) (omega arith) e) vs r.0 r.2)
    go (no z) (inr l) (inr r) =
        no (λ h. ⊎_elim z (λ k. ⊎_elim (l k.0 k.1) (r k.0 k.1) k.2) (supported_edge h.a h.b (length_pos h.a h.b h.nonzero) vs h.behind))
