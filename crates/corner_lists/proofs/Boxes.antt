-- All corners of boxes, each by its box; and where the corners of a box lie. Assumes nothing.
use mathlib.Core.Path.{◌≡◌, refl, sym, ◌∙◌}
use mathlib.Core.Logic.{⊎_elim}
use mathlib.Core.List.{List, ◌++◌}
use Prim.Native.Nat.{ℕ, ◌*◌, ◌/◌, ◌<◌}
use native.Mathlib.Omega.{arith}
use lib.IntN.{ℤ, pos, neg_ℤ}
use lib.Signed.{◌≤ℤ◌}
use lib.ListN.{length, get_or}
use Rattle.integers.proofs.Expr.{⊝◌, ◌≼◌, ◌⟹◌}
use Rattle.integers.proofs.Lin.{lin}
use Rattle.integers.proofs.Order.{≡→≤}
use Rattle.plane.specs.Points.{point}
use Rattle.plane.specs.declared.Point.{Point}
use Rattle.plane.specs.Members.{◌∈◌}
use Rattle.plane.proofs.Lists.{in_append, in_left, in_right, in_by_index, index_of_in}
use Rattle.turns.specs.Reflection.{opposite}
use Rattle.rounds.specs.Boxes.{Ordered, boxes_of, box_at, corner_of, corners_of, all_corners}
use Rattle.rounds.specs.declared.Box.{Box}
use Rattle.rounds.specs.declared.Corner.{Corner}
use Rattle.rounds.specs.declared.Corner.TheVariants.{SouthWest, SouthEast, NorthEast, NorthWest}
use Rattle.corners.proofs.Places.{nth_corner_lem, corners_length}

-- ---- a corner of a list's boxes

-- q is a corner of the box at place k
pub record CornerAt (l : List ℤ) (q : Point) : Type 0 where
  pub k : ℕ
  pub in_list : k < length l / 4
  pub corner : Corner
  pub is : q ≡ corner_of corner (box_at l (k * 4))

module _ (l : List ℤ) where
  named : (c : Corner) {q : Point} → q ∈ corners_of c (boxes_of l) → CornerAt l q
  named c m =
      let r = index_of_in (point (pos 0) (pos 0)) m in
      let h : r.0 < length l / 4 = omega (arith, r.1, corners_length c l) in
      record { k = r.0; in_list = h; corner = c; is = r.2 ∙ sym (nth_corner_lem c l r.0 h) }

  pub corner_at_lem : {q : Point} → q ∈ all_corners (boxes_of l) → CornerAt l q
  corner_at_lem {q} m =
      ⊎_elim (λ x. ⊎_elim (λ y. ⊎_elim (named SouthWest) (named SouthEast) (in_append (corners_of SouthWest (boxes_of l)) (corners_of SouthEast (boxes_of l)) y)) (named NorthEast)
      (in_append (corners_of SouthWest (boxes_of l) ++ corners_of SouthEast (boxes_of l)) (corners_of NorthEast (boxes_of l)) x)) (named NorthWest)
      (in_append (corners_of SouthWest (boxes_of l) ++ corners_of SouthEast (boxes_of l) ++ corners_of NorthEast (boxes_of l)) (corners_of NorthWest (boxes_of l)) m)

  abbrev of : Corner → List Point
  of c = corners_of c (boxes_of l)

  abbrev south : List Point
  south = of SouthWest ++ of SouthEast

  pub at_corner : (c : Corner) (k : ℕ) → k < length l / 4 → corner_of c (box_at l (k * 4)) ∈ all_corners (boxes_of l)
  at_corner c k h = rw (nth_corner_lem c l k h) (among c)
    where
      in_own : (c : Corner) → get_or (corners_of c (boxes_of l)) k (point (pos 0) (pos 0)) ∈ corners_of c (boxes_of l)
      in_own c = in_by_index (point (pos 0) (pos 0)) (corners_of c (boxes_of l)) k (omega (arith, corners_length c l))

      among : (c : Corner) → get_or (corners_of c (boxes_of l)) k (point (pos 0) (pos 0)) ∈ all_corners (boxes_of l)
      among SouthWest = in_left (south ++ of NorthEast) (of NorthWest) (in_left south (of NorthEast) (in_left (of SouthWest) (of SouthEast) (in_own SouthWest)))
      among SouthEast = in_left (south ++ of NorthEast) (of NorthWest) (in_left south (of NorthEast) (in_right (of SouthWest) (of SouthEast) (in_own SouthEast)))
      among NorthEast = in_left (south ++ of NorthEast) (of NorthWest) (in_right south (of NorthEast) (in_own NorthEast))
      among NorthWest = in_right (south ++ of NorthEast) (of NorthWest) (in_own NorthWest)

-- ---- where the corners of a box lie

-- of every box, no corner is further west than a or further north, or further east than b or further north, all of them seen through g
pub record Widest (g : Point → Point) (a b : Corner) : Type 0 where
  pub west : (x : Box) → Ordered x → (c : Corner) → (g (corner_of a x)).east ≤ℤ (g (corner_of c x)).east
  pub west_north : (x : Box) → Ordered x → (c : Corner) → (g (corner_of c x)).north ≤ℤ (g (corner_of a x)).north
  pub east : (x : Box) → Ordered x → (c : Corner) → (g (corner_of c x)).east ≤ℤ (g (corner_of b x)).east
  pub east_north : (x : Box) → Ordered x → (c : Corner) → (g (corner_of c x)).north ≤ℤ (g (corner_of b x)).north

pub least_east : (x : Box) → Ordered x → (c : Corner) → x.west ≤ℤ (corner_of c x).east
least_east x o SouthWest = ≡→≤ refl
least_east x o SouthEast = o.across
least_east x o NorthEast = o.across
least_east x o NorthWest = ≡→≤ refl

pub most_east : (x : Box) → Ordered x → (c : Corner) → (corner_of c x).east ≤ℤ x.east
most_east x o SouthWest = o.across
most_east x o SouthEast = ≡→≤ refl
most_east x o NorthEast = ≡→≤ refl
most_east x o NorthWest = o.across

pub least_north : (x : Box) → Ordered x → (c : Corner) → x.south ≤ℤ (corner_of c x).north
least_north x o SouthWest = ≡→≤ refl
least_north x o SouthEast = ≡→≤ refl
least_north x o NorthEast = o.upward
least_north x o NorthWest = o.upward

pub most_north : (x : Box) → Ordered x → (c : Corner) → (corner_of c x).north ≤ℤ x.north
most_north x o SouthWest = o.upward
most_north x o SouthEast = o.upward
most_north x o NorthEast = ≡→≤ refl
most_north x o NorthWest = ≡→≤ refl

negated : {a b : ℤ} → a ≤ℤ b → neg_ℤ b ≤ℤ neg_ℤ a
negated {a} {b} h = lin 0 2 (λ a b. a ≼ b ⟹ ⊝ b ≼ ⊝ a) (omega arith) a b h

pub widest_north : Widest (λ q. q) NorthWest NorthEast
widest_north = record { west = least_east; west_north = most_north; east = most_east; east_north = most_north }

pub widest_south : Widest opposite SouthEast SouthWest
widest_south =
    record {
      west = λ x o c. negated (most_east x o c);
      west_north = λ x o c. negated (least_north x o c);
      east = λ x o c. negated (least_east x o c);
      east_north = λ x o c. negated (least_north x o c);
    }
