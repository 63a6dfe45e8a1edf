-- The line of two keys, and the side of it that a key is on, as the machine reads them. A difference is at most 32,000 in size, and so is a part: a product is at
-- most 1,024,000,000, and the offset 2,048,000,000. Assumes nothing.
use mathlib.Core.Path.{◌≡◌, sym, ap, ap₂, ◌∙◌, subst}
use Prim.Native.Nat.{ℕ, ◌≤◌, ◌^◌}
use lib.Dec.{T, ltb}
use lib.IntN.{ℤ, pos, ◌-ℤ◌, ◌*ℤ◌}
use mir.Syntax.{w32, w64}
use mir.Val.{hbits, to_z, of_z}
use Rattle.integers.specs.Upto.{Upto}
use Rattle.integers.proofs.Machine.{Got, got', upto_sub, upto_mul}
use Rattle.plane.specs.Points.{signed_area}
use Rattle.turns.specs.Keys.{IsKey, east_part, north_part, point_of}
use Rattle.turns.proofs.Coordinates.{easts_upto, norths_upto, upto_nat, area_by_parts, wide}
use Rattle.lines.specs.Lines.{LineOf, Drawn}
use Rattle.lines.specs.declared.Line.{Line}

-- a number z that a call returned as r, or a struct holds
read : {B : ℕ} {r z : ℤ} → T (ltb B (2 ^ hbits w64)) → r ≡ z → Upto B z → Got w64 B (to_z w64 (of_z w64 r)) z
read {B} {r} {z} t e h = subst (λ x. Got w64 B (to_z w64 (of_z w64 x)) z) (sym e) (got' w64 t h)

-- a part n of a key, returned as k, and so widened as r
pub part : {r : ℤ} {k n : ℕ} → r ≡ pos k → k ≡ n → n ≤ 32000 → Got w64 32000 (to_z w64 (of_z w64 r)) (pos n)
part {r} {k} {n} e d h = read tt (e ∙ ap pos d) (upto_nat {b = 32000} n h)

-- how far east and north b's point is of a's, in 64 bits, and as 32 bits gave it
module _ {a b : ℕ} (ka : IsKey a) (kb : IsKey b) {r : ℤ} where
  easts : r ≡ (point_of b).east -ℤ (point_of a).east → Got w64 32000 (to_z w64 (of_z w64 r)) ((point_of b).east -ℤ (point_of a).east)
  easts e = read tt e (easts_upto ka kb)

  norths : r ≡ (point_of b).north -ℤ (point_of a).north → Got w64 32000 (to_z w64 (of_z w64 r)) ((point_of b).north -ℤ (point_of a).north)
  norths e = read tt e (norths_upto ka kb)

  pub wide_easts : {s : ℤ} → r ≡ to_z w32 (of_z w32 s) → s ≡ (point_of b).east -ℤ (point_of a).east
      → Got w64 32000 (to_z w64 (of_z w64 r)) ((point_of b).east -ℤ (point_of a).east)
  wide_easts e d = wide tt tt e d (easts_upto ka kb)

  pub wide_norths : {s : ℤ} → r ≡ to_z w32 (of_z w32 s) → s ≡ (point_of b).north -ℤ (point_of a).north
      → Got w64 32000 (to_z w64 (of_z w64 r)) ((point_of b).north -ℤ (point_of a).north)
  wide_norths e d = wide tt tt e d (norths_upto ka kb)

-- the fields of a line, whatever keys it is that of
module _ {l : Line} (d : Drawn l) where
  pub east : Got w64 32000 (to_z w64 (of_z w64 l.east)) ((point_of d.to).east -ℤ (point_of d.from).east)
  east = easts d.key_from d.key_to d.line.east

  pub north : Got w64 32000 (to_z w64 (of_z w64 l.north)) ((point_of d.to).north -ℤ (point_of d.from).north)
  north = norths d.key_from d.key_to d.line.north

  pub offset : Got w64 2048000000 (to_z w64 (of_z w64 l.offset))
      (((point_of d.to).east -ℤ (point_of d.from).east) *ℤ pos (north_part d.from) -ℤ ((point_of d.to).north -ℤ (point_of d.from).north) *ℤ pos (east_part d.from))
  offset =
      read tt d.line.offset
      (upto_sub
      (upto_mul (easts_upto d.key_from d.key_to) (upto_nat {b = 32000} _ d.key_from.north_in))
      (upto_mul (norths_upto d.key_from d.key_to) (upto_nat {b = 32000} _ d.key_from.east_in)))

-- one line: whatever two keys it is that of, it has the same fields
pub same_area : {l : Line} (d : Drawn l) (a b k : ℕ) → LineOf a b l
    → (((point_of d.to).east -ℤ (point_of d.from).east) *ℤ pos (north_part k) -ℤ ((point_of d.to).north -ℤ (point_of d.from).north) *ℤ pos (east_part k))
    -ℤ (((point_of d.to).east -ℤ (point_of d.from).east) *ℤ pos (north_part d.from) -ℤ ((point_of d.to).north -ℤ (point_of d.from).north) *ℤ pos (east_part d.from))
    ≡ signed_area (point_of a) (point_of b) (point_of k)
same_area d a b k h =
    let e = sym d.line.east ∙ h.east in
    let n = sym d.line.north ∙ h.north in
    ap₂ ◌-ℤ◌ (ap₂ ◌-ℤ◌ (ap (λ z. z *ℤ pos (north_part k)) e) (ap (λ z. z *ℤ pos (east_part k)) n)) (sym d.line.offset ∙ h.offset) ∙ area_by_parts a b k
