-- What was printed so far, part by part. Assumes nothing.
use Rattle.std.specs.Prelude.{Option, Some, None}
use Rattle.std.specs.Io.KnownBytes.{Appends}
use Rattle.std.proofs.Common.{◌≡◌, ℕ, List, ◌++◌, length, take, drop, sym, ◌∙◌, ap, subst, append_assoc}
use Rattle.std.proofs.Math.Seq.{take-append_seam}
use Rattle.texts.specs.Text.{text_of, Wrote}
use Rattle.text_parts.specs.Steps.{text_left, NextLines}
use Rattle.text_parts.specs.declared.lines_left.LinesLeft.{LinesLeft}
use Rattle.text_parts.specs.declared.lines_left.Piece.{Piece}

-- one text behind another
pub appends_both : (a b c : Option (List ℕ)) (xs ys : List ℕ) → Appends a b xs → Appends b c ys → Appends a c (xs ++ ys)
appends_both None b c xs ys f g = tt
appends_both (Some os) (Some bs) (Some cs) xs ys f g = g ∙ ap (λ l. l ++ ys) f ∙ append_assoc os xs ys
appends_both (Some os) (Some bs) None xs ys f g = g
appends_both (Some os) None c xs ys f g = absurd f

-- what was written stands at the front
pub wrote_front : {a xs ys : List ℕ} {n : ℕ} → Wrote a xs n ys → take n ys ≡ a
wrote_front {a} {xs} {ys} {n} f = rw (f.counted, f.bytes) (take-append_seam a (drop (length a) xs))

-- some lines are printed, and the others are left
pub record Sofar (file : List ℕ) (left : Option LinesLeft) (old new : Option (List ℕ)) : Type 0 where
  pub printed : List ℕ
  pub appends : Appends old new printed
  pub is : printed ++ text_left left ≡ text_of file

-- after the next lines
pub sofar_lines : {file entry text : List ℕ} {left : Option LinesLeft} {l : LinesLeft} {r : Piece} (old mid new : Option (List ℕ)) → Sofar file left old mid → left ≡ Some l
    → NextLines l entry r text → Appends mid new (take r.bytes text) → Sofar file r.left old new
sofar_lines {r = r} old mid new s e n a =
    record {
      printed = s.printed ++ n.lines;
      appends = appends_both old mid new s.printed n.lines s.appends (subst (λ t. Appends mid new t) (wrote_front n.wrote) a);
      is = append_assoc s.printed n.lines (text_left r.left) ∙ ap (λ t. s.printed ++ t) (n.is ∙ ap text_left (sym e)) ∙ s.is;
    }
