-- `outlines::round_outlines` meets its contract: each polygon is written behind the earlier ones. Assumes nothing.
use mathlib.Core.List.{List}
use Prim.Native.Nat.{ℕ, ◌+◌, ◌*◌, ◌/◌, ◌≤◌}
use native.Mathlib.Omega.{arith}
use lib.IntN.{ℤ}
use lib.ListN.{length}
use Rattle.rounds.specs.Boxes.{BoxList, boxes_of, corners_of, all_corners}
use Rattle.rounds.specs.declared.Corner.{Corner}
use Rattle.rounds.specs.declared.Corner.TheVariants.{SouthWest, SouthEast, NorthEast, NorthWest}
use Rattle.corners.proofs.Places.{corners_length}
use Rattle.outlines.specs.Outlines.{PolygonKeys, TwoBehind}
use Rattle.outlines.proofs.Polygons.{all_length}
use Rattle.outlines.proofs.Rounds.{five}
use Rattle.outlines.proofs.round_outlines.Goals as goal

-- the outer polygon has at most four vertices for each box, and two corner polygons have two
outer_few : (l : List ℤ) → BoxList l → {ks : List ℕ} {n : ℕ} → PolygonKeys (all_corners (boxes_of l)) ks n → n ≤ 4 * (length l / 4)
outer_few l bl p = omega (arith, p.few, all_length l bl.whole, bl.whole)

two_few : (l : List ℤ) (a b : Corner) {from n m : ℕ} {x y : List ℕ} → TwoBehind (corners_of a (boxes_of l)) (corners_of b (boxes_of l)) from x n m y → n + m ≤ 2 * (length l / 4)
two_few l a b t = omega (arith, t.behind.few, corners_length a l, t.next.few, corners_length b l)

pub returns : goal.returns
returns c =
    let l = c.args.boxes.numbers.now in
    let s = c.append_two_outlines-southwest in
    let n = c.append_two_outlines-northeast in
    five (boxes_of l) c.first_outline-outer.new.vertices s.new.vertices n.new.vertices c.first_outline-outer.result s.result.0 s.result.1 n.result.0 n.result.1
    (omega (
      arith,
      outer_few l c.args.boxes.accepted c.first_outline-outer.ensures,
      two_few l SouthWest SouthEast s.ensures,
      two_few l NorthEast NorthWest n.ensures,
      c.requires.room,
    ))
    c.first_outline-outer.ensures s.ensures n.ensures
