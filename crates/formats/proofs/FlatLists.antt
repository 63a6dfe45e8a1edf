-- Boxes and plugs as flat lists and back, and the length of the file that has them. Assumes nothing.
use mathlib.Core.Path.{◌≡◌, refl, ◌∙◌, ap}
use mathlib.Core.List.{List, [], ◌∷◌, ◌++◌, flat_map}
use Prim.Native.Nat.{◌%◌}
use native.Mathlib.Omega.{arith}
use lib.IntN.{ℤ}
use lib.ListN.{length, length-append}
use Rattle.plane.specs.declared.Point.{Point}
use Rattle.rounds.specs.Boxes.{boxes_of, plugs_of}
use Rattle.rounds.specs.declared.Box.{Box}
use Rattle.formats.specs.Format.{box_record, plug_record, end_record, file_of}
use Rattle.formats.specs.Promises.{edges, coordinates, byte_count}
use Rattle.formats.proofs.Bytes.{length_boxes, length_plugs, length_end}

-- ---- flat lists

-- a whole list is the numbers of its boxes, and those are boxes again
pub flat_boxes : (l : List ℤ) → length l % 4 ≡ 0 → flat_map edges (boxes_of l) ≡ l
unfolding flat_map
flat_boxes [] h = refl
flat_boxes (w ∷ []) h = absurd (omega arith)
flat_boxes (w ∷ s ∷ []) h = absurd (omega arith)
flat_boxes (w ∷ s ∷ e ∷ []) h = absurd (omega arith)
flat_boxes (w ∷ s ∷ e ∷ n ∷ l) h = ap (λ l. w ∷ s ∷ e ∷ n ∷ l) (flat_boxes l (omega arith))

pub flat_plugs : (l : List ℤ) → length l % 2 ≡ 0 → flat_map coordinates (plugs_of l) ≡ l
unfolding flat_map
flat_plugs [] h = refl
flat_plugs (e ∷ []) h = absurd (omega arith)
flat_plugs (e ∷ n ∷ l) h = ap (λ l. e ∷ n ∷ l) (flat_plugs l (omega arith))

pub boxes_flat : (bs : List Box) → boxes_of (flat_map edges bs) ≡ bs
unfolding flat_map
boxes_flat [] = refl
boxes_flat (b ∷ bs) = ap (λ l. b ∷ l) (boxes_flat bs)

pub plugs_flat : (ps : List Point) → plugs_of (flat_map coordinates ps) ≡ ps
unfolding flat_map
plugs_flat [] = refl
plugs_flat (p ∷ ps) = ap (λ l. p ∷ l) (plugs_flat ps)

-- ---- the length of a file

-- the byte count is the length of the file that the writer gives
pub file_length : (boxes plugs : List ℤ) → length (file_of (boxes_of boxes) (plugs_of plugs)) ≡ byte_count boxes plugs
unfolding file_of byte_count
file_length boxes plugs =
    length-append (flat_map box_record (boxes_of boxes) ++ flat_map plug_record (plugs_of plugs)) end_record
    ∙ omega (arith, length-append (flat_map box_record (boxes_of boxes)) (flat_map plug_record (plugs_of plugs)), length_boxes boxes, length_plugs plugs, length_end)
