-- The lengths of records and lists of them as bytes. Assumes nothing.
use mathlib.Core.Path.{◌≡◌, refl, ◌∙◌, ap}
use mathlib.Core.List.{List, [], ◌∷◌, flat_map}
use Prim.Native.Nat.{ℕ, ◌*◌, ◌/◌}
use native.Mathlib.Omega.{arith}
use lib.IntN.{ℤ}
use lib.ListN.{length, length-append}
use Rattle.plane.specs.declared.Point.{Point}
use Rattle.rounds.specs.Boxes.{boxes_of, plugs_of}
use Rattle.rounds.specs.declared.Box.{Box}
use Rattle.rounds.proofs.Rows.{boxes_length}
use Rattle.formats.specs.Format.{mark_length, box_length, plug_length, mark_bytes, four_bytes, number_bytes, box_record, plug_record, end_record}

pub length_box : (b : Box) → length (box_record b) ≡ box_length
unfolding box_record mark_bytes number_bytes four_bytes
length_box b = refl

pub length_plug : (p : Point) → length (plug_record p) ≡ plug_length
unfolding plug_record mark_bytes number_bytes four_bytes
length_plug p = refl

pub length_end : length end_record ≡ mark_length
unfolding end_record mark_bytes
length_end = refl

-- as many elements for each
pub length_flat : {A B : Type 0} (n : ℕ) (f : A → List B) → ((a : A) → length (f a) ≡ n) → (l : List A) → length (flat_map f l) ≡ n * length l
unfolding flat_map
length_flat n f h [] = omega arith
length_flat n f h (a ∷ l) = length-append (f a) (flat_map f l) ∙ omega (arith, h a, length_flat n f h l)

-- the number of plugs of a flat list
pub count_plugs : (l : List ℤ) → length (plugs_of l) ≡ length l / 2
count_plugs [] = refl
count_plugs (e ∷ []) = refl
count_plugs (e ∷ n ∷ l) = omega (arith, count_plugs l)

-- the records of the boxes and of the plugs of a flat list
pub length_boxes : (l : List ℤ) → length (flat_map box_record (boxes_of l)) ≡ box_length * (length l / 4)
length_boxes l = length_flat box_length box_record length_box (boxes_of l) ∙ ap (λ n. box_length * n) (boxes_length l)

pub length_plugs : (l : List ℤ) → length (flat_map plug_record (plugs_of l)) ≡ plug_length * (length l / 2)
length_plugs l = length_flat plug_length plug_record length_plug (plugs_of l) ∙ ap (λ n. plug_length * n) (count_plugs l)
