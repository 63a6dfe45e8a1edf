-- A coordinate of the span, moved by 16,000 to be a part of a key, and back. Assumes nothing.
use mathlib.Core.Path.{◌≡◌, sym, ap, ◌∙◌, subst}
use Prim.Native.Nat.{ℕ, suc, ◌+◌, ◌-◌, ◌*◌, ◌≤◌, ◌^◌}
use native.Mathlib.Omega.{arith}
use lib.Dec.{T, ltb, lit≤}
use lib.IntN.{ℤ, pos, negsuc, ◌+ℤ◌, ◌-ℤ◌, ◌*ℤ◌, nat_abs}
use lib.Signed.{non_neg}
use mir.Syntax.{w32, w64}
use mir.Val.{SFits, hbits, to_z, of_z}
use Rattle.integers.specs.Upto.{Upto}
use Rattle.integers.proofs.Expr.{◌⊕◌, ◌⊖◌, ◌⊗◌, ⊝◌, #◌, ◌≐◌, ◌≼◌, ◌⟹◌}
use Rattle.integers.proofs.Lin.{lin}
use Rattle.integers.proofs.Ring.{ring}
use Rattle.integers.proofs.Diff.{is_self, is_neg, is_add, is_eq, is_le, le_is}
use Rattle.integers.proofs.Machine.{fits, plain, upto_sub, Got, got, got', ask_sub, got_sub, ask_add, got_add}
use Rattle.plane.specs.Points.{InSpan, point, signed_area}
use Rattle.plane.specs.declared.Point.{Point}
use Rattle.plane.proofs.Twins.{signed_areaᴱ}
use Rattle.turns.specs.Keys.{stride, east_part, north_part, IsKey, KeyOf, key_at, point_of}
use Rattle.turns.proofs.Parts.{east_made, north_made}
use Rattle.turns.proofs.Order.{point_injective}

-- a natural number at most b
pub upto_nat : {b : ℕ} (n : ℕ) → n ≤ b → Upto b (pos n)
upto_nat {b} n h =
    record {
      low = is_le (is_neg (is_self (pos b))) (is_self (pos n)) (omega arith);
      high = is_le (is_self (pos n)) (is_self (pos b)) (omega arith);
    }

-- ---- from a key

-- 16,000, as the machine reads it
datum : Got w32 16000 (to_z w32 (of_z w32 (pos 16000))) (pos 16000)
datum = got' w32 tt (upto_nat {b = 16000} 16000 (lit≤ tt))

-- a part of a key less 16,000: what the machine asks, and what it makes
pub part_fits : (n : ℕ) → n ≤ 32000 → SFits w32 (to_z w32 (of_z w32 (pos n)) -ℤ to_z w32 (of_z w32 (pos 16000)))
part_fits n h = ask_sub (got' w32 tt (upto_nat {b = 32000} n h)) datum tt

pub part_is : (n : ℕ) → n ≤ 32000 → to_z w32 (of_z w32 (to_z w32 (of_z w32 (pos n)) -ℤ to_z w32 (of_z w32 (pos 16000)))) ≡ pos n -ℤ pos 16000
part_is n h = (got_sub (got' w32 tt (upto_nat {b = 32000} n h)) datum tt).eq

part_upto : (n : ℕ) → n ≤ 32000 → Upto 16000 (pos n -ℤ pos 16000)
part_upto n h =
    let k = upto_nat {b = 32000} n h in
    let z = upto_nat {b = n} 0 (omega arith) in
    record {
      low = lin 0 1 (λ x. # 0 ≼ x ⟹ ⊝ # 16000 ≼ x ⊖ # 16000) (omega arith) (pos n) z.high;
      high = lin 0 1 (λ x. x ≼ # 32000 ⟹ x ⊖ # 16000 ≼ # 16000) (omega arith) (pos n) k.high;
    }

-- a key's point is in the span
pub key_in_span : {k : ℕ} → IsKey k → InSpan (point_of k)
unfolding point_of
key_in_span {k} h = record { easts = part_upto (east_part k) h.east_in; norths = part_upto (north_part k) h.north_in }

-- how far one key's point lies from another's
module _ {a b : ℕ} (ha : IsKey a) (hb : IsKey b) where
  pub easts_upto : Upto 32000 ((point_of b).east -ℤ (point_of a).east)
  easts_upto = upto_sub (key_in_span hb).easts (key_in_span ha).easts

  pub norths_upto : Upto 32000 ((point_of b).north -ℤ (point_of a).north)
  norths_upto = upto_sub (key_in_span hb).norths (key_in_span ha).norths

-- a coordinate or a difference of two, z, that a call returned as s, widened to 64 bits as r
pub wide : {B : ℕ} {r s z : ℤ} → T (ltb B (2 ^ hbits w32)) → T (ltb B (2 ^ hbits w64)) → r ≡ to_z w32 (of_z w32 s) → s ≡ z → Upto B z
    → Got w64 B (to_z w64 (of_z w64 r)) z
wide {B} {z = z} t u e d h =
    subst (λ x. Got w64 B (to_z w64 (of_z w64 x)) z) (sym (e ∙ ap (λ x. to_z w32 (of_z w32 x)) d ∙ plain w32 t h)) (got' w64 u h)

-- a part of a key, widened to 64 bits
pub part_wide : {r n : ℕ} → r ≡ n → n ≤ 32000 → Got w64 32000 (to_z w64 r) (pos n)
part_wide {r} {n} e h = subst (λ x. Got w64 32000 (to_z w64 x) (pos n)) (sym e) (got' w64 tt (upto_nat {b = 32000} n h))

-- the signed area of three keys' points, by the parts of the first and the third
pub area_by_parts : (a b k : ℕ) → let e = (point_of b).east -ℤ (point_of a).east in let n = (point_of b).north -ℤ (point_of a).north in
    (e *ℤ pos (north_part k) -ℤ n *ℤ pos (east_part k)) -ℤ (e *ℤ pos (north_part a) -ℤ n *ℤ pos (east_part a)) ≡ signed_area (point_of a) (point_of b) (point_of k)
unfolding point_of
area_by_parts a b k =
    ring 0 6 (λ ea na eb nb ek nk.
    ((((eb ⊖ # 16000) ⊖ (ea ⊖ # 16000)) ⊗ nk ⊖ ((nb ⊖ # 16000) ⊖ (na ⊖ # 16000)) ⊗ ek) ⊖
    (((eb ⊖ # 16000) ⊖ (ea ⊖ # 16000)) ⊗ na ⊖ ((nb ⊖ # 16000) ⊖ (na ⊖ # 16000)) ⊗ ea))
    ≐ signed_areaᴱ (ea ⊖ # 16000, na ⊖ # 16000) (eb ⊖ # 16000, nb ⊖ # 16000) (ek ⊖ # 16000, nk ⊖ # 16000)) tt
    (pos (east_part a)) (pos (north_part a)) (pos (east_part b)) (pos (north_part b)) (pos (east_part k)) (pos (north_part k))

-- ---- to a key

-- t, which the machine computed as z + 16,000, is a natural number, at most 32,000
pub record Moved (t z : ℤ) : Type 0 where
  pub not_neg : T (non_neg t)
  pub most : nat_abs t ≤ 32000
  pub is : pos (nat_abs t) -ℤ pos 16000 ≡ z

moved_by : (z : ℤ) → Upto 16000 z → Moved (z +ℤ pos 16000) z
moved_by (pos n) h =
    let l = le_is (is_self (pos n)) (is_self (pos 16000)) h.high in
    record { not_neg = tt; most = omega arith; is = lin 0 1 (λ a. (a ⊕ # 16000) ⊖ # 16000 ≐ a) (omega arith) (pos n) }
moved_by (negsuc n) h =
    let l = le_is (is_neg (is_self (pos 16000))) (is_self (negsuc n)) h.low in
    let e : negsuc n +ℤ pos 16000 ≡ pos (16000 - suc n) = is_eq (is_add (is_self (negsuc n)) (is_self (pos 16000))) (is_self (pos (16000 - suc n))) (omega arith) in
    subst (λ t. Moved t (negsuc n)) (sym e)
    (record {
      not_neg = tt;
      most = omega arith;
      is = lin 0 2 (λ a b. a ⊕ # 16000 ≐ b ⟹ b ⊖ # 16000 ≐ a) (omega arith) (negsuc n) (pos (16000 - suc n)) e;
    })

module _ {z : ℤ} (h : Upto 16000 z) where
  pub moved_fits : SFits w32 (to_z w32 (of_z w32 z) +ℤ to_z w32 (of_z w32 (pos 16000)))
  moved_fits = ask_add (got (fits w32 tt h) h) datum tt

  pub moved : Moved (to_z w32 (of_z w32 (to_z w32 (of_z w32 z) +ℤ to_z w32 (of_z w32 (pos 16000))))) z
  moved = subst (λ x. Moved x z) (sym (got_add (got (fits w32 tt h) h) datum tt).eq) (moved_by z h)

-- the key of two moved numbers
pub key_made : {t s e n : ℤ} → Moved t e → Moved s n → KeyOf (point e n) (nat_abs t * stride + nat_abs s)
unfolding point_of
key_made {t} {s} {e} {n} h k =
    let a = east_made (nat_abs t) (nat_abs s) (omega (arith, k.most)) in
    let b = north_made (nat_abs t) (nat_abs s) (omega (arith, k.most)) in
    record {
      key = record { east_in = omega (arith, h.most); north_in = omega (arith, k.most) };
      is = λ i. point ((ap (λ x. pos x -ℤ pos 16000) a ∙ h.is) i) ((ap (λ x. pos x -ℤ pos 16000) b ∙ k.is) i);
    }

-- a point of the span has a key
pub key_at_lem : (q : Point) → InSpan q → KeyOf q (key_at q)
unfolding key_at
key_at_lem q h = key_made (moved_by q.east h.easts) (moved_by q.north h.norths)

-- and no other
pub one_key : {q : Point} {k : ℕ} → KeyOf q k → k ≡ key_at q
one_key {q} {k} o = point_injective k (key_at q) (o.is ∙ sym (key_at_lem q (subst InSpan o.is (key_in_span o.key))).is)
