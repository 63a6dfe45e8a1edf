-- The packed sum and difference of a key's parts (specs/Sums) tell the key. Assumes nothing.
use mathlib.Core.Path.{◌≡◌}
use Prim.Native.Nat.{ℕ, ◌+◌, ◌-◌, ◌*◌, ◌/◌, ◌%◌, ◌≤◌}
use native.Mathlib.Omega.{arith}
use Rattle.turns.specs.Keys.{stride, east_part, north_part, IsKey}
use Rattle.turns.specs.Sums.{sum_of, difference_of}
use Rattle.turns.proofs.Parts.{east_made, north_made, made_of}

-- what stands below and above a stride
pub sum_parts : {s k : ℕ} → IsKey k → s ≡ sum_of k → (s % stride ≡ east_part k) × (s / stride ≡ north_part k + east_part k)
unfolding east_part north_part sum_of
sum_parts {s} {k} h e =
    let n = north_part k + east_part k in
    let o = h.east_in in
    rw e (north_made n (east_part k) (omega arith), east_made n (east_part k) (omega arith))

pub difference_parts : {s k : ℕ} → IsKey k → s ≡ difference_of k → (s % stride ≡ east_part k) × (s / stride ≡ north_part k + (stride - east_part k))
unfolding east_part north_part difference_of
difference_parts {s} {k} h e =
    let n = north_part k + (stride - east_part k) in
    let o = h.east_in in
    rw e (north_made n (east_part k) (omega arith), east_made n (east_part k) (omega arith))

-- the key back
less_east : (x y e n : ℕ) → x ≡ e → y ≡ n + e → y - x ≡ n
less_east x y e n p q = omega arith

more_east : (x y e n : ℕ) → e ≤ stride → x ≡ e → y ≡ n + (stride - e) → y + x - stride ≡ n
more_east x y e n l p q = omega arith

pub sum_key : {s k : ℕ} → IsKey k → s ≡ sum_of k → s % stride * stride + (s / stride - s % stride) ≡ k
sum_key {s} {k} h e =
    let p = sum_parts h e in
    made_of k (s % stride) (s / stride - s % stride) p.0 (less_east (s % stride) (s / stride) (east_part k) (north_part k) p.0 p.1)

pub difference_key : {s k : ℕ} → IsKey k → s ≡ difference_of k → s % stride * stride + (s / stride + s % stride - stride) ≡ k
difference_key {s} {k} h e =
    let p = difference_parts h e in
    let o = h.east_in in
    made_of k (s % stride) (s / stride + s % stride - stride) p.0
    (more_east (s % stride) (s / stride) (east_part k) (north_part k) (omega arith) p.0 p.1)
