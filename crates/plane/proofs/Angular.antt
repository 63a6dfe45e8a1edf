-- The angular lemma. A vector points up where its east is more than 0, or is 0 and its north is more than 0: it leads from a point to one that comes later by
-- east, then by north. Among such vectors to turn right, or not to turn, is transitive: det u w · v = det u v · w + det v w · u, read in each coordinate.
-- Assumes nothing.
use mathlib.Core.Path.{◌≡◌, sym}
use lib.IntN.{pos}
use lib.Signed.{◌≤ℤ◌, ◌<ℤ◌}
use Rattle.integers.proofs.Expr.{#◌, ◌≐◌, ◌≼◌, ◌≺◌, ◌⟹◌, bot}
use Rattle.integers.proofs.Cert.{cert, hyp, ◌⊞◌, ◌⊠◌, eqn, ◌∵◌, ◌∵◌÷◌}
use Rattle.integers.proofs.Order.{<→≤, ≡→≤}
use Rattle.plane.specs.declared.Point.{Point}
use Rattle.plane.proofs.Twins.{pt, det, detᴱ}

-- u points up in the order of points: east, or straight north
pub data Up (u : Point) : Type 0 where
  ahead : pos 0 <ℤ u.east → Up u
  above : u.east ≡ pos 0 → pos 0 <ℤ u.north → Up u

-- so it does not go west
pub up_nn : {u : Point} → Up u → pos 0 ≤ℤ u.east
up_nn (ahead h) = <→≤ h
up_nn (above e h) = ≡→≤ (sym e)

-- a vector that goes east turns left into one that goes straight north
steep : (u v : Point) → pos 0 <ℤ u.east → v.east ≡ pos 0 → pos 0 <ℤ v.north → det u v ≤ℤ pos 0 → ⊥
steep u v = cert 2 0 (λ u v. # 0 ≺ u.0 ⟹ v.0 ≐ # 0 ⟹ # 0 ≺ v.1 ⟹ detᴱ u v ≼ # 0 ⟹ bot ∵ hyp 0 ⊠ hyp 2 ⊞ hyp 3 ⊞ eqn 1 u.1) tt (pt u) (pt v)

-- turning right, or going straight, is transitive
pub right_trans : (u v w : Point) → Up u → Up v → Up w → det u v ≤ℤ pos 0 → det v w ≤ℤ pos 0 → det u w ≤ℤ pos 0
right_trans u v w hu (ahead hv) hw h k =
    cert 3 0 (λ u v w. # 0 ≼ u.0 ⟹ # 0 ≺ v.0 ⟹ # 0 ≼ w.0 ⟹ detᴱ u v ≼ # 0 ⟹ detᴱ v w ≼ # 0 ⟹ detᴱ u w ≼ # 0 ∵ hyp 3 ⊠ hyp 2 ⊞ hyp 4 ⊠ hyp 0 ÷ hyp 1) tt
    (pt u) (pt v) (pt w) (up_nn hu) hv (up_nn hw) h k
right_trans u v w (ahead hu) (above e hv) hw h k = absurd (steep u v hu e hv h)
right_trans u v w (above d hu) (above e hv) hw h k =
    cert 2 0 (λ u w. u.0 ≐ # 0 ⟹ # 0 ≺ u.1 ⟹ # 0 ≼ w.0 ⟹ detᴱ u w ≼ # 0 ∵ eqn 0 w.1 ⊞ hyp 1 ⊠ hyp 2) tt (pt u) (pt w) d hu (up_nn hw)

-- strict, where the first turn is
pub right_trans_l : (u v w : Point) → Up u → Up v → Up w → det u v <ℤ pos 0 → det v w ≤ℤ pos 0 → det u w <ℤ pos 0
right_trans_l u v w hu (ahead hv) (ahead hw) h k =
    cert 3 0 (λ u v w. # 0 ≼ u.0 ⟹ # 0 ≺ v.0 ⟹ # 0 ≺ w.0 ⟹ detᴱ u v ≺ # 0 ⟹ detᴱ v w ≼ # 0 ⟹ detᴱ u w ≺ # 0 ∵ hyp 3 ⊠ hyp 2 ⊞ hyp 4 ⊠ hyp 0 ÷ hyp 1) tt
    (pt u) (pt v) (pt w) (up_nn hu) hv hw h k
right_trans_l u v w hu (ahead hv) (above e hw) h k = absurd (steep v w hv e hw k)
right_trans_l u v w hu (above e hv) hw h k =
    absurd (cert 2 0 (λ u v. # 0 ≼ u.0 ⟹ v.0 ≐ # 0 ⟹ # 0 ≺ v.1 ⟹ detᴱ u v ≺ # 0 ⟹ bot ∵ hyp 0 ⊠ hyp 2 ⊞ hyp 3 ⊞ eqn 1 u.1) tt (pt u) (pt v) (up_nn hu) e hv h)
