-- `supports::is_in_triangle` meets its contract: three corners that wind round the plug. Assumes nothing.
use mathlib.Core.Path.{◌≡◌, refl, sym, ◌∙◌, subst}
use mathlib.Core.Bool.{Bool, true, false, ◌&&◌, true≢false}
use mathlib.Core.List.{[], ◌∷◌}
use Prim.Native.Nat.{◌-◌, ◌/◌, ◌≤◌, ◌<◌}
use native.Mathlib.Omega.{arith}
use lib.IntN.{pos}
use lib.ListN.{length}
use Rattle.integers.proofs.Machine.{lt_z_true}
use Rattle.plane.specs.Points.{point}
use Rattle.plane.specs.declared.Point.{Point}
use Rattle.plane.specs.Members.{◌∈◌, none, ◌&◌}
use Rattle.plane.proofs.Lists.{in_by_index}
use Rattle.plane.proofs.Winding.{winding_within}
use Rattle.turns.specs.Keys.{point_of}
use Rattle.rounds.specs.Boxes.{boxes_of, corners_of}
use Rattle.rounds.proofs.Rows.{boxes_length}
use Rattle.corners.specs.Corners.{nth_corner}
use Rattle.corners.proofs.Places.{corners_length}
use Rattle.cones.specs.Cones.{Named}
use Rattle.cones.specs.declared.CornerKey.{CornerKey}
use Rattle.cones.proofs.Turns.{cycle_neg_back}
use Rattle.supports.proofs.is_in_triangle.Goals as goal
use Rattle.supports.proofs.is_in_triangle.Goals.{Start}

-- a box's number is one of the list's, and the box stands one place before it
module _ (s : Start) {v : CornerKey} (n : Named (boxes_of s.args.boxes.numbers.now) v) where
  small : v.number ≤ 1024
  small = omega (arith, n.most, boxes_length s.args.boxes.numbers.now, s.args.boxes.accepted.few)

  place : v.number - 1 < length s.args.boxes.numbers.now / 4
  place = omega (arith, n.least, n.most, boxes_length s.args.boxes.numbers.now)

  -- that one corner of it is a corner of the list
  listed : (q : Point) → q ≡ nth_corner s.args.corner (boxes_of s.args.boxes.numbers.now) (v.number - 1) → q ∈ corners_of s.args.corner (boxes_of s.args.boxes.numbers.now)
  listed q e =
      let l : v.number - 1 < length (corners_of s.args.corner (boxes_of s.args.boxes.numbers.now)) = omega (arith, place, corners_length s.args.corner s.args.boxes.numbers.now) in
      subst (λ x. x ∈ corners_of s.args.corner (boxes_of s.args.boxes.numbers.now)) (sym e) (in_by_index (point (pos 0) (pos 0)) _ (v.number - 1) l)

all_three : (t u v : Bool) → t && (u && v) ≡ true → (t ≡ true) × (u ≡ true) × (v ≡ true)
all_three true true true e = (refl, refl, refl)
all_three true true false e = absurd (true≢false (sym e))
all_three true false v e = absurd (true≢false (sym e))
all_three false u v e = absurd (true≢false (sym e))

pub corner_key-u-requires : goal.corner_key-u-requires
corner_key-u-requires c = place c.before c.requires.0

pub corner_key-v-requires : goal.corner_key-v-requires
corner_key-v-requires c = place c.before.before.before c.requires.1

pub corner_key-w-requires : goal.corner_key-w-requires
corner_key-w-requires c = place c.before.before.before.before.before c.requires.2

pub returns : goal.returns
returns c =
    let s = c.before.before.before.before.before.before.before.before.before in
    let p = point_of c.args.plug in
    let ku = c.corner_key-u in
    let kv = c.corner_key-v in
    let kw = c.corner_key-w in
    let u = point_of ku.result in
    let v = point_of kv.result in
    let w = point_of kw.result in
    record {
      surrounded = λ e.
          let t = all_three _ _ _ e in
          winding_within p u (w ∷ v ∷ []) _
          (cycle_neg_back p u w (lt_z_true (sym c.turns_left-3.ensures ∙ t.2)), (cycle_neg_back p w v (lt_z_true (sym c.turns_left-2.ensures ∙ t.1)), cycle_neg_back p v u (lt_z_true (sym c.turns_left.ensures ∙ t.0))))
          (listed s c.requires.0 u ku.ensures.is & listed s c.requires.2 w kw.ensures.is & listed s c.requires.1 v kv.ensures.is & none);
    }
