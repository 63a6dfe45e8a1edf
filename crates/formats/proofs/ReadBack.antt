-- What the writer gives is read as the boxes and plugs that it was given. Assumes nothing.
use mathlib.Core.Path.{◌≡◌, refl, sym, ◌∙◌, ap}
use mathlib.Core.Bool.{Bool, true, false}
use mathlib.Core.List.{List, [], ◌∷◌, ◌++◌, flat_map, append_assoc}
use Prim.Native.Nat.{ℕ, ◌+◌, ◌*◌, ◌/◌, ◌%◌, ◌≤◌, ◌<◌}
use native.Mathlib.Omega.{arith}
use native.Mathlib.Nat.{add-zero}
use borrow.Author.Tests.{le-ltb}
use lib.IntN.{ℤ}
use lib.ListN.{length, get_or, drop, length-drop}
use lib.Seq.{drop-drop, drop_at, get_or-drop}
use mir.Syntax.{w32}
use mir.Val.{SFits, of_z}
use mir.ValLaws.{to_z-of_z}
use Rattle.plane.specs.declared.Point.{Point}
use Rattle.plane.specs.Members.{All, ◌&◌}
use Rattle.rounds.specs.declared.Box.{Box}
use Rattle.rounds.specs.Refusals.{none}
use Rattle.formats.specs.Format.{box_mark, plug_mark, end_mark, mark_length, box_length, plug_length, mark_bytes, four_bytes, number_bytes}
use Rattle.formats.specs.Format.{box_record, plug_record, end_record, file_of}
use Rattle.formats.specs.Format.{byte_at, mark_at, number_at, file_box_at, file_plug_at, box_kind, plug_kind, kind_of, next_at}
use Rattle.formats.specs.Content.{Content, kind_fault, stop, and_then, content_of}
use Rattle.formats.proofs.Faults.{BoxFits, PlugFits}
use Rattle.formats.proofs.Bytes.{length_box, length_plug}
use Rattle.formats.proofs.Scan.{scan, from_start, scan_kind}

-- ---- bytes at an offset

-- what stands after a part that stands at an offset
after : (file : List ℕ) (at n : ℕ) (a b : List ℕ) → length a ≡ n → drop at file ≡ a ++ b → drop (at + n) file ≡ b
after file at n a b l e = sym (drop-drop n at file) ∙ ap (drop n) e ∙ drop_at a b n l

-- a byte at an offset
byte_is : (file : List ℕ) (at i : ℕ) {l : List ℕ} → drop at file ≡ l → byte_at file (at + i) ≡ byte_at l i
byte_is file at i e = sym (get_or-drop at file i 0) ∙ ap (λ l. get_or l i 0) e

-- four bytes are the number that they were made of
four_are : (n : ℕ) → n / 16777216 * 16777216 + n / 65536 % 256 * 65536 + n / 256 % 256 * 256 + n % 256 ≡ n
four_are n = omega arith

number_is : (file : List ℕ) (at : ℕ) (z : ℤ) (rest : List ℕ) → SFits w32 z → drop at file ≡ number_bytes z ++ rest → number_at file at ≡ z
unfolding number_at number_bytes four_bytes
number_is file at z rest f e =
    let b₀ = ap (byte_at file) (sym (add-zero at)) ∙ byte_is file at 0 e in
    let b₁ = byte_is file at 1 e in
    let b₂ = byte_is file at 2 e in
    let b₃ = byte_is file at 3 e in
    rw (b₀, b₁, b₂, b₃, four_are (of_z w32 z)) (to_z-of_z w32 z f)

-- the file reaches as far as what stands at an offset in it
reaches : (file : List ℕ) (at : ℕ) (l : List ℕ) → drop at file ≡ l → 0 < length l → at + length l ≤ length file
reaches file at l e h = omega (arith, length-drop at file, ap length e)

-- the mark at an offset
mark_is : (file : List ℕ) (at mark : ℕ) (rest : List ℕ) → drop at file ≡ mark_bytes mark ++ rest → mark_at file at ≡ mark
unfolding mark_at mark_bytes
mark_is file at mark rest e =
    let p = ap (byte_at file) (sym (add-zero at)) ∙ byte_is file at 0 e in
    let m : mark / 256 * 256 + mark % 256 ≡ mark = omega arith in
    rw (p, byte_is file at 1 e, m)

-- ---- a box, a plug and the end at an offset

module _ (file : List ℕ) (at : ℕ) (rest : List ℕ) where
  box_read : (b : Box) → drop at file ≡ box_record b ++ rest → scan file at false ≡ and_then none box_kind file at (scan file (at + box_length) false)
  unfolding box_record mark_bytes number_bytes four_bytes kind_of kind_fault next_at
  box_read b e =
      let r = reaches file at (box_record b ++ rest) e (omega arith) in
      let h : at + box_length ≤ length file = omega arith in
      scan_kind file at false (omega arith) (ap kind_of (mark_is file at box_mark _ e)) (simp (le-ltb _ _ h))

  box_is : (b : Box) → BoxFits b → drop at file ≡ box_record b ++ rest → file_box_at file (at + mark_length) ≡ b
  unfolding box_record mark_bytes file_box_at number_bytes four_bytes
  box_is b f e =
      let n : ℤ → List ℕ = number_bytes in
      let w = after file at mark_length (mark_bytes box_mark) (n b.west ++ (n b.south ++ (n b.east ++ (n b.north ++ rest)))) refl e in
      let s = after file (at + 2) 4 (n b.west) (n b.south ++ (n b.east ++ (n b.north ++ rest))) refl w in
      let t = after file (at + 2) 8 (n b.west ++ n b.south) (n b.east ++ (n b.north ++ rest)) refl w in
      let u = after file (at + 2) 12 (n b.west ++ n b.south ++ n b.east) (n b.north ++ rest) refl w in
      let e₁ = number_is file (at + 2) b.west _ f.west w in
      let e₂ = number_is file (at + 2 + 4) b.south _ f.south s in
      let e₃ = number_is file (at + 2 + 8) b.east _ f.east t in
      let e₄ = number_is file (at + 2 + 12) b.north _ f.north u in
      rw (e₁, e₂, e₃, e₄)

  plug_read : (p : Point) (plugged : Bool) → drop at file ≡ plug_record p ++ rest
      → scan file at plugged ≡ and_then none plug_kind file at (scan file (at + plug_length) true)
  unfolding plug_record mark_bytes number_bytes four_bytes kind_of kind_fault next_at
  plug_read p plugged e =
      let r = reaches file at (plug_record p ++ rest) e (omega arith) in
      let h : at + plug_length ≤ length file = omega arith in
      scan_kind file at plugged (omega arith) (ap kind_of (mark_is file at plug_mark _ e)) (simp (le-ltb _ _ h))

  plug_is : (p : Point) → PlugFits p → drop at file ≡ plug_record p ++ rest → file_plug_at file (at + mark_length) ≡ p
  unfolding plug_record mark_bytes file_plug_at number_bytes four_bytes
  plug_is p f e =
      let n : ℤ → List ℕ = number_bytes in
      let w = after file at mark_length (mark_bytes plug_mark) (n p.east ++ (n p.north ++ rest)) refl e in
      let s = after file (at + 2) 4 (n p.east) (n p.north ++ rest) refl w in
      rw (number_is file (at + 2) p.east _ f.east w, number_is file (at + 2 + 4) p.north _ f.north s)

end_read : (file : List ℕ) (at : ℕ) (plugged : Bool) → drop at file ≡ end_record → scan file at plugged ≡ stop none
unfolding end_record mark_bytes kind_of kind_fault next_at
end_read file at plugged e =
    let r = reaches file at end_record e (omega arith) in
    let h : length file ≤ at + mark_length = omega (arith, length-drop at file, ap length e) in
    scan_kind file at plugged (omega arith) (ap kind_of (mark_is file at end_mark [] e)) (simp (le-ltb _ _ h))

-- ---- a whole file

-- so many boxes and plugs, with no note and no fault
abbrev pub held : List Box → List Point → Content
held boxes plugs = record { fault = none; boxes = boxes; plugs = plugs; notes = 0 }

read_plugs : (ps : List Point) (file : List ℕ) (at : ℕ) (plugged : Bool) → All PlugFits ps → drop at file ≡ file_of [] ps → scan file at plugged ≡ held [] ps
unfolding file_of flat_map
read_plugs [] file at plugged f e = end_read file at plugged e
read_plugs (p ∷ ps) file at plugged (g & f) e =
    let e' : drop at file ≡ plug_record p ++ file_of [] ps = e ∙ append_assoc (plug_record p) (flat_map plug_record ps) end_record in
    plug_read file at (file_of [] ps) p plugged e'
    ∙ ap (and_then none plug_kind file at) (read_plugs ps file (at + plug_length) true f (after file at plug_length (plug_record p) (file_of [] ps) (length_plug p) e'))
    ∙ ap (λ q. held [] (q ∷ ps)) (plug_is file at (file_of [] ps) p g e')

read_boxes : (bs : List Box) (ps : List Point) (file : List ℕ) (at : ℕ) → All BoxFits bs → All PlugFits ps → drop at file ≡ file_of bs ps → scan file at false ≡ held bs ps
unfolding file_of flat_map
read_boxes [] ps file at f g e = read_plugs ps file at false g e
read_boxes (b ∷ bs) ps file at (x & f) g e =
    let e' : drop at file ≡ box_record b ++ file_of bs ps =
    e
    ∙ ap (λ l. l ++ end_record) (append_assoc (box_record b) (flat_map box_record bs) (flat_map plug_record ps))
    ∙ append_assoc (box_record b) (flat_map box_record bs ++ flat_map plug_record ps) end_record in
    box_read file at (file_of bs ps) b e'
    ∙ ap (and_then none box_kind file at) (read_boxes bs ps file (at + box_length) f g (after file at box_length (box_record b) (file_of bs ps) (length_box b) e'))
    ∙ ap (λ c. held (c ∷ bs) ps) (box_is file at (file_of bs ps) b x e')

-- what the writer gives holds the boxes and plugs that it was given
pub read_back : (bs : List Box) (ps : List Point) → All BoxFits bs → All PlugFits ps → content_of (file_of bs ps) ≡ held bs ps
read_back bs ps f g = from_start (file_of bs ps) ∙ read_boxes bs ps (file_of bs ps) 0 f g refl
