-- `locations::place_of` meets its contract: what each test says of the side that was tested (proofs/Segments.antt, Fans.antt). Assumes nothing.
use Prim.Native.Nat.{ℕ, ◌-◌, ◌<◌, ◌^◌}
use mathlib.Core.Path.{◌≡◌, refl, sym, ◌∙◌}
use mathlib.Core.Bool.{true, false}
use mathlib.Core.List.{List}
use native.Mathlib.Omega.{arith}
use lib.IntN.{ℤ, pos}
use lib.Signed.{◌≤ℤ◌, ◌<ℤ◌, mag, lt_z}
use lib.ListN.{length}
use mir.Syntax.{w64}
use mir.Val.{hbits, to_z, of_z}
use Rattle.integers.proofs.Machine.{lt_z_true, lt_z_false, lt_plain, le_plain}
use Rattle.integers.proofs.Order.{≤-antisym, not-≤}
use Rattle.integers.proofs.Tests.{lit, ok, eqz, nez}
use Rattle.plane.specs.Points.{signed_area}
use Rattle.turns.specs.Keys.{point_of}
use Rattle.turns.proofs.Bounds.{returned}
use Rattle.locations.specs.Search.{vertex_at}
use Rattle.locations.proofs.Vertices.{side_next, side_closing, cyclic}
use Rattle.locations.proofs.Fans.{place_off, place_on, place_within}
use Rattle.locations.proofs.place_of.Goals as goal
use Rattle.locations.proofs.place_of.Goals.{After-signed_area-of_first, After-signed_area-of_last, After-signed_area-of_next}

-- ---- tests of an area z, which a call returned as r

module _ (r : ℤ) {z : ℤ} (m : mag r < 2 ^ hbits w64) (e : r ≡ z) where
  more : lt_z (to_z w64 (of_z w64 (pos 0))) (to_z w64 (of_z w64 r)) ≡ true → pos 0 <ℤ z
  more t = lt_plain refl (returned w64 m e) (lt_z_true t)

  at_most : lt_z (to_z w64 (of_z w64 (pos 0))) (to_z w64 (of_z w64 r)) ≡ false → z ≤ℤ pos 0
  at_most t = le_plain (returned w64 m e) refl (lt_z_false t)

  zero : of_z w64 r ≡ of_z w64 (pos 0) → z ≡ pos 0
  zero t = sym e ∙ eqz {w = w64} (ok {w = w64} r m) (lit {w = w64} (pos 0) tt) t

  less : z ≤ℤ pos 0 → (of_z w64 r ≡ of_z w64 (pos 0) → ⊥) → z <ℤ pos 0
  less l t = not-≤ (λ k. nez {w = w64} (ok {w = w64} r m) (lit {w = w64} (pos 0) tt) t (e ∙ ≤-antisym l k))

-- the code asks of the last side from its second point on
closing : (ks : List ℕ) (k : ℕ) → signed_area (vertex_at ks 0) (point_of k) (vertex_at ks (length ks - 1)) ≡ signed_area (vertex_at ks (length ks - 1)) (vertex_at ks 0) (point_of k)
closing ks k = cyclic (vertex_at ks (length ks - 1)) (vertex_at ks 0) (point_of k)

pub returns-then-of_first-gt0 : goal.returns-then-of_first-gt0
returns-then-of_first-gt0 c = place_off _ _ _ _ (side_next c.args.vertices.codes.now 0 (omega arith)) (more c.signed_area-of_first.result c.signed_area-of_first.type_inv (cc) c.if-of_first-gt0.true)

pub returns-then-of_last-gt0 : goal.returns-then-of_last-gt0
returns-then-of_last-gt0 c =
    let ks = c.args.vertices.codes.now in
    place_off _ _ _ _ (side_closing ks (omega arith)) (more c.signed_area-of_last.result c.signed_area-of_last.type_inv (cc (closing ks c.args.plug)) c.if-of_last-gt0.true)

pub fan_index-i-requires : goal.fan_index-i-requires
fan_index-i-requires c =
    record {
      three = omega arith;
      first_side = at_most c.signed_area-of_first.result c.signed_area-of_first.type_inv (cc) c.if-of_first-gt0.false;
      last_side = at_most c.signed_area-of_last.result c.signed_area-of_last.type_inv (cc (closing c.args.vertices.codes.now c.args.plug)) c.if-of_last-gt0.false;
    }

pub returns-then-of_next-gt0 : goal.returns-then-of_next-gt0
returns-then-of_next-gt0 c =
    let f = c.fan_index-i in
    place_off _ _ _ _ (side_next c.args.vertices.codes.now f.result f.ensures.in_range) (more c.signed_area-of_next.result c.signed_area-of_next.type_inv (cc) c.if-of_next-gt0.true)

pub returns-then-of_first-eq0 : goal.returns-then-of_first-eq0
returns-then-of_first-eq0 c =
    let f = c.fan_index-i in
    let ks = c.args.vertices.codes.now in
    place_on ks c.args.plug f.result f.ensures (at_most c.signed_area-of_next.result c.signed_area-of_next.type_inv (cc) c.if-of_next-gt0.false) _ _
    (side_next ks 0 (omega arith)) (zero c.signed_area-of_first.result c.signed_area-of_first.type_inv (cc) c.if-of_first-eq0.true)

pub returns-then-of_last-eq0 : goal.returns-then-of_last-eq0
returns-then-of_last-eq0 c =
    let f = c.fan_index-i in
    let ks = c.args.vertices.codes.now in
    place_on ks c.args.plug f.result f.ensures (at_most c.signed_area-of_next.result c.signed_area-of_next.type_inv (cc) c.if-of_next-gt0.false) _ _
    (side_closing ks (omega arith)) (zero c.signed_area-of_last.result c.signed_area-of_last.type_inv (cc (closing ks c.args.plug)) c.if-of_last-eq0.true)

pub returns-then-of_next-eq0 : goal.returns-then-of_next-eq0
returns-then-of_next-eq0 c =
    let f = c.fan_index-i in
    let ks = c.args.vertices.codes.now in
    place_on ks c.args.plug f.result f.ensures (at_most c.signed_area-of_next.result c.signed_area-of_next.type_inv (cc) c.if-of_next-gt0.false) _ _
    (side_next ks f.result f.ensures.in_range) (zero c.signed_area-of_next.result c.signed_area-of_next.type_inv (cc) c.if-of_next-eq0.true)

pub returns : goal.returns
returns c =
    let x = c.signed_area-of_first in
    let y = c.signed_area-of_last in
    let z = c.signed_area-of_next in
    let last = closing c.args.vertices.codes.now c.args.plug in
    place_within _ _ c.fan_index-i.result c.fan_index-i.ensures
    (less x.result x.type_inv (cc) (at_most x.result x.type_inv (cc) c.if-of_first-gt0.false) c.if-of_first-eq0.false)
    (less y.result y.type_inv (cc last) (at_most y.result y.type_inv (cc last) c.if-of_last-gt0.false) c.if-of_last-eq0.false)
    (less z.result z.type_inv (cc) (at_most z.result z.type_inv (cc) c.if-of_next-gt0.false) c.if-of_next-eq0.false)
