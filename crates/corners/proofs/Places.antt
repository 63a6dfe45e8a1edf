-- The corner at a place of a list of boxes. Assumes nothing.
use mathlib.Core.Path.{◌≡◌, sym, ◌∙◌, ap, subst}
use mathlib.Core.List.{List, []}
use Prim.Native.Nat.{ℕ, ◌*◌, ◌/◌, ◌<◌}
use native.Mathlib.Omega.{arith}
use lib.IntN.{ℤ, pos}
use lib.ListN.{length, length-map}
use Rattle.plane.specs.Points.{point, InSpan}
use Rattle.plane.proofs.Lists.{map_at}
use Rattle.rounds.specs.Boxes.{BoxInSpan, BoxList, boxes_of, box_at, corner_of, corners_of}
use Rattle.rounds.specs.declared.Box.{Box}
use Rattle.rounds.specs.declared.Corner.{Corner}
use Rattle.rounds.specs.declared.Corner.TheVariants.{SouthWest, SouthEast, NorthEast, NorthWest}
use Rattle.rounds.proofs.Rows.{boxes_length, boxes_at, all_boxes_at}
use Rattle.corners.specs.Corners.{nth_corner}

-- a corner of a box in the span is in it
pub corner_in_span : (c : Corner) (b : Box) → BoxInSpan b → InSpan (corner_of c b)
corner_in_span SouthWest b h = record { easts = h.west; norths = h.south }
corner_in_span SouthEast b h = record { easts = h.east; norths = h.south }
corner_in_span NorthEast b h = record { easts = h.east; norths = h.north }
corner_in_span NorthWest b h = record { easts = h.west; norths = h.north }

-- the corner at a place is that of the box there
pub nth_corner_lem : (c : Corner) (xs : List ℤ) (i : ℕ) → i < length xs / 4 → corner_of c (box_at xs (i * 4)) ≡ nth_corner c (boxes_of xs) i
nth_corner_lem c xs i h =
    let l : i < length (boxes_of xs) = omega (arith, boxes_length xs) in
    ap (corner_of c) (sym (boxes_at z xs i l)) ∙ sym (map_at (corner_of c) z (point (pos 0) (pos 0)) (boxes_of xs) i l)
  where
    z : Box
    z = box_at [] 0

-- and in the span
pub nth_in_span : (c : Corner) (xs : List ℤ) → BoxList xs → (i : ℕ) → i < length xs / 4 → InSpan (nth_corner c (boxes_of xs) i)
nth_in_span c xs a i h = subst InSpan (nth_corner_lem c xs i h) (corner_in_span c (box_at xs (i * 4)) (all_boxes_at xs a.in_span i h))

-- as many corners of one name as boxes
pub corners_length : (c : Corner) (xs : List ℤ) → length (corners_of c (boxes_of xs)) ≡ length xs / 4
corners_length c xs = length-map (boxes_of xs) (corner_of c) ∙ boxes_length xs
