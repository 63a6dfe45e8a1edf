-- A list that no cause of the table turns back is one that polygons and verdicts are worked out of. Assumes nothing.
use Prim.Native.Nat.{ℕ, ◌+◌, ◌/◌, ◌%◌, ◌≤◌}
use mathlib.Core.Bool.{Bool, true, false, not, ◌||◌}
use mathlib.Core.Path.{◌≡◌, refl}
use mathlib.Core.List.{List, [], ◌∷◌}
use native.Mathlib.Omega.{arith}
use borrow.Author.Tests.{eqb-true, eqb-false, ltb-false, not-false}
use Rattle.std.proofs.lemmas.Bool.{or_parts}
use lib.Dec.{eqb, ltb}
use lib.ListN.{length}
use lib.IntN.{ℤ, pos, negsuc}
use lib.Signed.{lt_z}
use Rattle.integers.specs.Upto.{Upto}
use Rattle.integers.proofs.Machine.{lt_z_false}
use Rattle.plane.specs.Members.{All, ◌&◌}
use Rattle.plane.specs.Points.{InSpan}
use Rattle.plane.specs.declared.Point.{Point}
use Rattle.rounds.specs.Boxes.{boxes_of, Ordered, BoxInSpan, most_boxes, BoxList}
use Rattle.rounds.specs.declared.Cause.{Cause}
use Rattle.rounds.specs.declared.Box.{Box}
use Rattle.rounds.specs.Refusals.{Fault, fault, when, ◌or_else◌, beyond, edge_beyond, edges_reversed, box_fault, each_box_fault, box_list_fault, plug_fault}

-- no fault of two in turn is no fault of either
pub or_else_none : (f g : Fault) → f or_else g ≡ Fault.none → (f ≡ Fault.none) × (g ≡ Fault.none)
or_else_none Fault.none g e = (refl, e)
or_else_none (fault c p) g e = absurd (cc)

-- a cause that did not arise
pub when_none : (b : Bool) (c : Cause) (p : ℕ) → when b c p ≡ Fault.none → b ≡ false
when_none true c p e = absurd (cc)
when_none false c p e = refl

-- x is in the span
pub not_beyond : (x : ℤ) → beyond x ≡ false → Upto 16000 x
unfolding beyond
not_beyond x e = let r = or_parts (lt_z x (negsuc 15999)) (lt_z (pos 16000) x) e in record { low = lt_z_false r.0; high = lt_z_false r.1 }

pub box_accepted : (k : ℕ) (b : Box) → box_fault k b ≡ Fault.none → Ordered b × BoxInSpan b
unfolding box_fault edge_beyond edges_reversed
box_accepted k b e =
    let r = or_else_none (when (edge_beyond b) Cause.EdgeBeyond k) (when (edges_reversed b) Cause.EdgesReversed k) e in
    let far = when_none (edge_beyond b) Cause.EdgeBeyond k r.0 in
    let w = or_parts (beyond b.west) (beyond b.south || (beyond b.east || beyond b.north)) far in
    let s = or_parts (beyond b.south) (beyond b.east || beyond b.north) w.1 in
    let n = or_parts (beyond b.east) (beyond b.north) s.1 in
    let back = when_none (edges_reversed b) Cause.EdgesReversed k r.1 in
    let o = or_parts (lt_z b.east b.west) (lt_z b.north b.south) back in (
      record { across = lt_z_false o.0; upward = lt_z_false o.1 },
      record {
        west = not_beyond b.west w.0;
        south = not_beyond b.south s.0;
        east = not_beyond b.east n.0;
        north = not_beyond b.north n.1;
      },
    )

-- box by box
each_accepted : (k : ℕ) (bs : List Box) → each_box_fault k bs ≡ Fault.none → All Ordered bs × All BoxInSpan bs
unfolding each_box_fault
each_accepted k [] e = (All.none, All.none)
each_accepted k (b ∷ bs) e =
    let r = or_else_none (box_fault k b) (each_box_fault (k + 1) bs) e in
    let x = box_accepted k b r.0 in
    let y = each_accepted (k + 1) bs r.1 in
    (x.0 & y.0, x.1 & y.1)

-- what each cause that did not arise leaves of a box list
pub accepted : (l : List ℤ) → box_list_fault l ≡ Fault.none → BoxList l
unfolding box_list_fault
accepted l e =
    let count = length l / 4 in
    let one = not (eqb (length l % 4) 0) in
    let none = eqb (length l) 0 in
    let many = ltb most_boxes count in
    let boxes = each_box_fault 1 (boxes_of l) in
    let third = when many Cause.TooManyBoxes count in
    let second = when none Cause.NoBox 0 in
    let r₁ = or_else_none (when one Cause.ListLength (length l)) (second or_else third or_else boxes) e in
    let r₂ = or_else_none second (third or_else boxes) r₁.1 in
    let r₃ = or_else_none third boxes r₂.1 in
    let w : length l % 4 ≡ 0 = eqb-true _ _ (not-false _ (when_none one Cause.ListLength (length l) r₁.0)) in
    let each = each_accepted 1 (boxes_of l) r₃.1 in
    record {
      whole = w;
      some = let n : length l ≡ 0 → ⊥ = eqb-false (length l) 0 (when_none none Cause.NoBox 0 r₂.0) in omega arith;
      few = ltb-false _ _ (when_none many Cause.TooManyBoxes count r₃.0);
      ordered = each.0;
      in_span = each.1;
    }

-- so there is a box
pub accepted_some : (l : List ℤ) → 4 ≤ length l → (b : Box) × (bs : List Box) × (boxes_of l ≡ (b ∷ bs))
accepted_some [] h = absurd (omega arith)
accepted_some (w ∷ []) h = absurd (omega arith)
accepted_some (w ∷ s ∷ []) h = absurd (omega arith)
accepted_some (w ∷ s ∷ x ∷ []) h = absurd (omega arith)
accepted_some (w ∷ s ∷ x ∷ n ∷ l) h = (_, boxes_of l, refl)

-- an accepted plug is in the span
pub plug_accepted : (k : ℕ) (p : Point) → plug_fault k p ≡ Fault.none → InSpan p
unfolding plug_fault
plug_accepted k p e =
    let r = or_parts (beyond p.east) (beyond p.north) (when_none (beyond p.east || beyond p.north) Cause.PlugBeyond k e) in
    record { easts = not_beyond p.east r.0; norths = not_beyond p.north r.1 }
