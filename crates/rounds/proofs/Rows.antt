-- Box by box and plug by plug, as loops over a flat list walk it. Assumes nothing.
use mathlib.Core.Path.{◌≡◌, refl, ap, subst}
use mathlib.Core.List.{List, [], ◌∷◌}
use Prim.Native.Nat.{ℕ, zero, suc, ◌+◌, ◌*◌, ◌/◌, ◌<◌, ◌≤◌}
use native.Mathlib.Omega.{arith}
use native.Mathlib.Numerals.{unary_clauses}
use lib.IntN.{ℤ, pos}
use lib.ListN.{length, get_or, drop, drop_of_length-le}
use Rattle.plane.specs.Members.{All}
use Rattle.plane.proofs.Lists.{index_of_all}
use Rattle.integers.proofs.Parts.{drop_two, drop_four}
use Rattle.rounds.specs.Boxes.{plug_at, box, boxes_of, box_at, plugs_of}
use Rattle.rounds.specs.declared.Box.{Box}
use Rattle.rounds.specs.Refusals.{Fault, ◌or_else◌, box_fault, each_box_fault, plug_fault, each_plug_fault}

-- the fault f of the box at i, then those of the boxes from j on
pub box_step : (xs : List ℤ) (k i j : ℕ) {f : Fault} → f ≡ box_fault k (box_at xs i) → i + 3 < length xs → i + 4 ≡ j
    → each_box_fault k (boxes_of (drop i xs)) ≡ f or_else each_box_fault (k + 1) (boxes_of (drop j xs))
unfolding each_box_fault
box_step xs k i j e h p = rw (e, ← p) (ap (λ l. each_box_fault k (boxes_of l)) (drop_four (pos 0) xs i h))

pub plug_step : (xs : List ℤ) (k i j : ℕ) {f : Fault} → f ≡ plug_fault k (plug_at xs i) → i + 1 < length xs → i + 2 ≡ j
    → each_plug_fault k (plugs_of (drop i xs)) ≡ f or_else each_plug_fault (k + 1) (plugs_of (drop j xs))
unfolding each_plug_fault
plug_step xs k i j e h p = rw (e, ← p) (ap (λ l. each_plug_fault k (plugs_of l)) (drop_two (pos 0) xs i h))

-- none is left
pub box_none : (xs : List ℤ) (k i : ℕ) → length xs ≤ i → each_box_fault k (boxes_of (drop i xs)) ≡ Fault.none
unfolding each_box_fault
box_none xs k i h = ap (λ l. each_box_fault k (boxes_of l)) (drop_of_length-le xs h)

pub plug_none : (xs : List ℤ) (k i : ℕ) → length xs ≤ i → each_plug_fault k (plugs_of (drop i xs)) ≡ Fault.none
unfolding each_plug_fault
plug_none xs k i h = ap (λ l. each_plug_fault k (plugs_of l)) (drop_of_length-le xs h)

-- ---- boxes by their place

-- the number of boxes
pub boxes_length : (xs : List ℤ) → length (boxes_of xs) ≡ length xs / 4
boxes_length [] = omega arith
boxes_length (w ∷ []) = omega arith
boxes_length (w ∷ s ∷ []) = omega arith
boxes_length (w ∷ s ∷ e ∷ []) = omega arith
boxes_length (w ∷ s ∷ e ∷ n ∷ xs) = omega (arith, boxes_length xs)

-- the box at place i, from 0
pub boxes_at : (z : Box) (xs : List ℤ) (i : ℕ) → i < length (boxes_of xs) → get_or (boxes_of xs) i z ≡ box_at xs (i * 4)
boxes_at z [] i h = absurd (omega arith)
boxes_at z (w ∷ []) i h = absurd (omega arith)
boxes_at z (w ∷ s ∷ []) i h = absurd (omega arith)
boxes_at z (w ∷ s ∷ e ∷ []) i h = absurd (omega arith)
boxes_at z (w ∷ s ∷ e ∷ n ∷ xs) zero h = refl
boxes_at z (w ∷ s ∷ e ∷ n ∷ xs) (suc i) h = let e : suc i * 4 ≡ suc (suc (suc (suc (i * 4)))) = omega arith in rw e (simp unary_clauses (simp unary_clauses at (boxes_at z xs i (omega arith))))

-- what holds of every box holds of the one at place i
pub all_boxes_at : {P : Box → Type 0} (xs : List ℤ) → All P (boxes_of xs) → (i : ℕ) → i < length xs / 4 → P (box_at xs (i * 4))
all_boxes_at {P} xs h i l =
    let k : i < length (boxes_of xs) = omega (arith, boxes_length xs) in
    subst P (boxes_at (box (pos 0) (pos 0) (pos 0) (pos 0)) xs i k) (index_of_all (box (pos 0) (pos 0) (pos 0) (pos 0)) h i k)
