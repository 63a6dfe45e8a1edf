-- `separating_lines::is_left_of_all` meets its contract. The invariant: the corner of each of the first k boxes is right of the line through the plug. Assumes nothing.
use mathlib.Core.Path.{◌≡◌, subst}
use mathlib.Core.List.{List}
use Prim.Native.Nat.{ℕ, ◌+◌, ◌/◌, ◌<◌}
use native.Mathlib.Decide.{dec_lt}
use native.Mathlib.Omega.{arith}
use lib.IntN.{ℤ}
use lib.Signed.{◌<ℤ◌}
use lib.ListN.{length}
use mir.Syntax.{w64}
use Rattle.integers.proofs.Machine.{le_z_false, lt_plain}
use Rattle.plane.specs.Points.{signed_area}
use Rattle.plane.specs.declared.Point.{Point}
use Rattle.turns.specs.Keys.{point_of}
use Rattle.turns.proofs.Bounds.{returned}
use Rattle.rounds.specs.Boxes.{boxes_of}
use Rattle.rounds.specs.declared.Corner.{Corner}
use Rattle.corners.specs.Corners.{nth_corner}
use Rattle.separating_lines.proofs.Separating.{all_behind}
use Rattle.separating_lines.proofs.is_left_of_all.Goals as goal
use Rattle.separating_lines.proofs.is_left_of_all.Invariants.{Beyond}

more : {l : List ℤ} {f t p : Point} {corner : Corner} {k : ℕ} → k < length l / 4 → Beyond l f t p corner k
    → signed_area f t (nth_corner corner (boxes_of l) k) <ℤ signed_area f t p → Beyond l f t p corner (k + 1)
more {l} {f} {t} {p} {corner} {k} h b s = record { within = omega arith; right = λ i o. go i o (dec_lt i k) }
  where
    go : (i : ℕ) → i < k + 1 → Dec (i < k) → signed_area f t (nth_corner corner (boxes_of l) i) <ℤ signed_area f t p
    go i o (yes j) = b.right i j
    go i o (no j) = let e : i ≡ k = omega arith in rw e s

pub loop-k-preserved : goal.loop-k-preserved
loop-k-preserved c =
    let limit = c.side_of-limit in
    let side = c.side_of in
    let w = c.line_through-line.ensures.value in
    more (omega arith) c.loop-k.invariant
    (subst (λ q. signed_area (point_of c.args.a) (point_of c.args.b) q <ℤ signed_area (point_of c.args.a) (point_of c.args.b) (point_of c.args.plug)) c.corner_key-key.ensures.is
    (lt_plain (returned w64 side.type_inv (side.ensures.value.area c.args.a c.args.b w)) (returned w64 limit.type_inv (limit.ensures.value.area c.args.a c.args.b w)) (le_z_false c.if-limit-side_of.false)))

pub returns : goal.returns
returns c =
    record {
      separated = λ e. all_behind c.args.boxes.numbers.now c.args.boxes.accepted (point_of c.args.a) (point_of c.args.b) (point_of c.args.plug) c.rightmost_corner-corner.result
          c.rightmost_corner-corner.ensures (λ k h. c.loop-k.invariant.right k (omega (arith, c.loop-k.invariant.within)));
    }
