-- The pieces of the plugs' lines, one behind another. Assumes nothing.
use mathlib.Core.Path.{◌≡◌, sym, ◌∙◌, ap}
use mathlib.Core.List.{List, ◌++◌, append_assoc}
use Prim.Native.Nat.{ℕ, ◌+◌, ◌-◌, ◌*◌, ◌≤◌}
use native.Mathlib.Omega.{arith}
use lib.ListN.{length, take, drop}
use Rattle.std.specs.Prelude.{Option, Some}
use Rattle.texts.specs.Text.{Wrote}
use Rattle.texts.proofs.Writing.{then_wrote}
use Rattle.plug_lines.specs.Steps.{most_plug_line}
use Rattle.text_parts.specs.Steps.{count_left, text_left, NextLines}
use Rattle.text_parts.specs.declared.lines_left.LinesLeft.{LinesLeft}
use Rattle.text_parts.specs.declared.lines_left.Piece.{Piece}

-- some of the lines are written, and the others are left
pub record Sofar (first : Option LinesLeft) (entry : List ℕ) (left : Option LinesLeft) (bytes : ℕ) (out : List ℕ) : Type 0 where
  pub lines : List ℕ
  pub wrote : Wrote lines entry bytes out
  pub few : bytes + most_plug_line * count_left left ≤ most_plug_line * count_left first
  pub is : lines ++ text_left left ≡ text_left first

-- the next piece
module _ {first : Option LinesLeft} {entry : List ℕ} (r : most_plug_line * count_left first ≤ length entry) {left : Option LinesLeft} {bytes : ℕ} {out : List ℕ} (i : Sofar first entry left bytes out)
    {l : LinesLeft} (e : left ≡ Some l) where
  pub sofar_more : {piece : Piece} {new : List ℕ} → NextLines l (take (length out - bytes) (drop bytes out)) piece new
      → Sofar first entry piece.left (bytes + piece.bytes) (take bytes out ++ (new ++ drop (length out - bytes) (drop bytes out)))
  sofar_more {piece} n =
      record {
        lines = i.lines ++ n.lines;
        wrote = then_wrote i.wrote (omega (arith, i.wrote.counted, i.few)) n.wrote;
        few = omega (arith, i.few, ap count_left e, n.few, n.further);
        is = append_assoc i.lines n.lines (text_left piece.left) ∙ ap (λ t. i.lines ++ t) (n.is ∙ ap text_left (sym e)) ∙ i.is;
      }
