-- A list that contains balanced points is balanced; and an extreme point is one that is not in the hull of all the other points at once. Assumes nothing.
use Prim.Native.Nat.{ℕ}
use mathlib.Core.Path.{◌≡◌, refl, ◌∙◌}
use mathlib.Core.Logic.{◌↔◌}
use mathlib.Core.List.{List, [], ◌∷◌, map}
use native.Mathlib.Omega.{arith}
use lib.IntN.{pos}
use lib.Dec.{lt→ltb}
use lib.ListN.{length}
use Rattle.integers.proofs.Order.{pos_nn}
use Rattle.plane.specs.declared.Point.{Point}
use Rattle.plane.specs.Members.{All, none, ◌&◌, ◌∈◌, here, there}
use Rattle.plane.specs.Vectors.{from, total, weighted, Balanced}
use Rattle.plane.specs.Polygons.{Other, Extreme}
use Rattle.plane.proofs.Lists.{all_map, in_map, all_imp}
use Rattle.plane.proofs.Combos.{Combo, nothing, times, ◌plus◌, balanced}
use Rattle.plane.proofs.PolygonFacts.{same_point}

-- a combination of vectors that all stand in a list is one of that list
combo_within : {us : List Point} (ws : List ℕ) {vs : List Point} → All (λ v. v ∈ us) vs → length ws ≡ length vs
    → Combo us (weighted (λ v. v.east) ws vs) (weighted (λ v. v.north) ws vs) (pos (total ws))
combo_within [] m e = nothing
combo_within (w ∷ ws) none e = absurd (omega arith)
combo_within (w ∷ ws) (m & ms) e = times (pos w) (pos_nn w) m plus combo_within ws ms (omega arith)

pub balanced_within : {us vs : List Point} → All (λ v. v ∈ us) vs → Balanced vs → Balanced us
balanced_within m h = balanced (combo_within h.weights m h.one_each) h.east_sum h.north_sum (record { lt = lt→ltb 0 (total h.weights) h.some_weight })

-- ---- the points but p

pub without : Point → List Point → List Point
without p [] = []
without p (q ∷ qs) = elim (same_point q p) [ yes e ↦ without p qs | no e ↦ q ∷ without p qs ]

without_others : (p : Point) (qs : List Point) → All (λ q. (q ∈ qs) × (q ≡ p → ⊥)) (without p qs)
unfolding without
without_others p [] = none
without_others p (q ∷ qs) = go (same_point q p) (all_imp (λ r h. (there h.0, h.1)) (without_others p qs))
  where
    go : (d : Dec (q ≡ p)) → All (Other (q ∷ qs) p) (without p qs) → All (Other (q ∷ qs) p) (elim d [ yes e ↦ without p qs | no e ↦ q ∷ without p qs ])
    go (yes e) r = r
    go (no e) r = (here refl, e) & r

others_without : (p : Point) (qs : List Point) (q : Point) → q ∈ qs → (q ≡ p → ⊥) → q ∈ without p qs
unfolding without
others_without p (r ∷ qs) q m ne = go (same_point r p) m (λ k. others_without p qs q k ne)
  where
    go : (d : Dec (r ≡ p)) → q ∈ (r ∷ qs) → (q ∈ qs → q ∈ without p qs) → q ∈ (elim d [ yes e ↦ without p qs | no e ↦ r ∷ without p qs ])
    go (yes e) (here f) k = absurd (ne (f ∙ e))
    go (yes e) (there m) k = k m
    go (no e) (here f) k = here f
    go (no e) (there m) k = there (k m)
others_without p [] q m ne = elim m [ ]

-- the definition asks of every list of other points; it is the same to ask of the list of all of them
pub extreme_iff : (qs : List Point) (p : Point) → Extreme qs p ↔ ((p ∈ qs) × (Balanced (map (from 1 p) (without p qs)) → ⊥))
extreme_iff qs p = (λ x. (x.listed, x.apart (without p qs) (without_others p qs)), λ h. record { listed = h.0; apart = λ others o b. h.1 (balanced_within (within o) b) })
  where
    within : {others : List Point} → All (Other qs p) others → All (λ v. v ∈ map (from 1 p) (without p qs)) (map (from 1 p) others)
    within o = all_map (from 1 p) (all_imp (λ q h. in_map (from 1 p) (others_without p qs q h.0 h.1)) o)
