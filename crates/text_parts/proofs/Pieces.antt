-- One piece of the plugs' lines. Assumes nothing.
use mathlib.Core.Path.{◌≡◌, refl, sym, ◌∙◌, ap, subst}
use mathlib.Core.List.{List, [], ◌∷◌, ◌++◌, flat_map, append_assoc}
use Prim.Native.Nat.{ℕ, ◌+◌, ◌-◌, ◌*◌, min}
use native.Mathlib.Nat.{add-zero}
use native.Mathlib.Omega.{arith}
use lib.IntN.{ℤ}
use lib.ListN.{length, take, drop, take-append-drop}
use lib.Seq.{take_at, length-take-le}
use Rattle.plane.specs.declared.Point.{Point}
use Rattle.rounds.specs.Boxes.{plugs_of}
use Rattle.rounds.specs.declared.Box.{Box}
use Rattle.formats.specs.Content.{content_of}
use Rattle.formats.specs.Promises.{coordinates}
use Rattle.formats.proofs.Bytes.{length_flat}
use Rattle.formats.proofs.FlatLists.{plugs_flat}
use Rattle.file_records.proofs.Over.{over_front_lem}
use Rattle.file_passes.specs.Steps.{ahead, PlugsRead}
use Rattle.texts.specs.Text.{plug_reply, plug_line, plug_lines, Wrote}
use Rattle.texts.proofs.Writing.{wrote_as}
use Rattle.plug_lines.specs.Steps.{LinesBehind}
use Rattle.plug_lines.proofs.Lines.{few_lines}
use mathlib.Core.Logic.{∥∥₁_elim}
use Rattle.std.specs.Prelude.{Option, None}
use Rattle.std.proofs.Props.{props}
use Rattle.plug_words.specs.Shapes.{ShapesOf}
use Rattle.plug_words.specs.declared.RoundShapes.{RoundShapes}
use Rattle.text_parts.specs.Waiting.{most_piece, Waiting}
use Rattle.text_parts.specs.Steps.{Behind, LeftFrom, NextLines}
use Rattle.text_parts.specs.declared.lines_left.LinesLeft.{LinesLeft}

-- the lines of plugs and of those behind them
lines_append : (k : ℕ) (bs : List Box) (ps qs : List Point) → plug_lines k bs (ps ++ qs) ≡ plug_lines k bs ps ++ plug_lines (k + length ps) bs qs
unfolding plug_lines
lines_append k bs [] qs = ap (λ n. plug_lines n bs qs) (sym (add-zero k))
lines_append k bs (p ∷ ps) qs =
    let n : k + 1 + length ps ≡ k + length (p ∷ ps) = omega arith in
    let l = plug_line k (plug_reply bs p) in
    ap (λ t. l ++ t) (lines_append (k + 1) bs ps qs ∙ ap (λ m. plug_lines (k + 1) bs ps ++ plug_lines m bs qs) n)
    ∙ sym (append_assoc l (plug_lines (k + 1) bs ps) (plug_lines (k + length (p ∷ ps)) bs qs))

-- ---- one piece

-- that bytes were written has one proof at most
wrote_prop : (text entry : List ℕ) (n : ℕ) (exit : List ℕ) → IsProp (Wrote text entry n exit)
wrote_prop text entry n exit = hlevel props

module _ (l : LinesLeft) {count : ℕ} (m : count ≡ min l.count most_piece) {zeros numbers : List ℤ} {next : ℕ} (p : PlugsRead l.file.now l.at count zeros next numbers) where
  abbrev new : List Point
  new = take count (ahead l.file.now l.at).plugs

  -- so many, and they are the first numbers that were read
  so_many : length new ≡ count
  so_many = length-take-le count (ahead l.file.now l.at).plugs (omega (arith, l.waiting.left, m))

  front : plugs_of (take (2 * count) numbers) ≡ new
  front =
      ap plugs_of
      (ap (take (2 * count)) (p.plugs ∙ over_front_lem zeros (flat_map coordinates new))
      ∙ take_at (flat_map coordinates new) (drop (length (flat_map coordinates new)) zeros) (2 * count) (length_flat 2 coordinates (λ q. refl) new ∙ ap (λ n. 2 * n) so_many))
      ∙ plugs_flat new

  -- their lines
  pub piece_lines : {entry exit : List ℕ} {n : ℕ} {left : Option LinesLeft}
      → LinesBehind l.shapes.polygons.vertices.now l.shapes.polygons.counts l.done (take (2 * count) numbers) entry n exit
      → LeftFrom l.file.now next (l.done + count) (l.count - count) left → NextLines l entry (record { bytes = n; left = left }) exit
  piece_lines {entry} {exit} {n} {left} written f =
      let w = l.waiting in
      let bs = (content_of l.file.now).boxes in
      let qs = (ahead l.file.now l.at).plugs in
      let t = plug_lines (l.done + 1) bs new in
      let by_shapes : ShapesOf bs l.shapes → Wrote t entry n exit = λ s. wrote_as (ap (plug_lines (l.done + 1) bs) front) (written.says bs w.ordered s) in
      let wrote : Wrote t entry n exit = ∥∥₁_elim w.shapes_of (wrote_prop t entry n exit) by_shapes in
      let c : l.done + 1 + length new ≡ l.done + count + 1 = omega (arith, so_many) in
      record {
        lines = t;
        wrote = wrote;
        few = omega (arith, wrote.counted, few_lines (l.done + 1) bs new (omega (arith, so_many, w.few, m)), so_many, m);
        further = f.counted ∙ ap (λ k. l.count - k) m;
        behind = subst (λ k. Behind l.file.now (l.done + k) left) m f.behind;
        is =
            ap (λ s. t ++ s) f.lines
            ∙ ap (λ rest. t ++ plug_lines (l.done + count + 1) bs rest) p.rest.are
            ∙ ap (λ k. t ++ plug_lines k bs (drop count qs)) (sym c)
            ∙ sym (lines_append (l.done + 1) bs new (drop count qs))
            ∙ ap (plug_lines (l.done + 1) bs) (take-append-drop count qs);
      }

-- no plug is left, and no line
pub none_from : {file : List ℕ} {shapes : RoundShapes} {at done count : ℕ} → Waiting file shapes at done count → count ≡ 0 → LeftFrom file at done count None
unfolding plug_lines
none_from {file} {at = at} {done = done} w z = record { counted = sym z; lines = none_of (ahead file at).plugs (w.left ∙ z); behind = tt }
  where
    none_of : (ps : List Point) → length ps ≡ 0 → [] ≡ plug_lines (done + 1) (content_of file).boxes ps
    none_of [] e = refl
    none_of (p ∷ ps) e = absurd (omega (arith, e))
