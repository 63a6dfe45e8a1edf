-- New elements over those of a list, and writes one after another: `WroteAt xs at new out` says that out is xs with new over it from an offset on, and
-- `Sofar` that a loop has written so of a whole, with the rest to come. Assumes nothing.
use mathlib.Core.Path.{◌≡◌, refl, sym, ◌∙◌, ap}
use mathlib.Core.List.{List, [], ◌∷◌, ◌++◌, append-nil, append_assoc}
use Prim.Native.Nat.{ℕ, ◌+◌, ◌≤◌, ◌<◌}
use native.Mathlib.Nat.{add-zero, zero-add, add_assoc}
use native.Mathlib.Numerals.{add-one}
use native.Mathlib.Omega.{arith}
use lib.ListN.{length, take, drop, set, length-append, length-drop, take-append-drop}
use lib.Seq.{length-take-le, take_at, drop-append-add, drop-drop, set_split}
use Rattle.file_records.specs.Records.{over}

module _ {A : Type 0} where
  -- from the front on
  pub over_front_lem : (xs new : List A) → over xs 0 new ≡ new ++ drop (length new) xs
  over_front_lem xs new = ap (λ n. new ++ drop n xs) (zero-add (length new))

  over_none : (xs : List A) (at : ℕ) → over xs at [] ≡ xs
  over_none xs at = ap (λ n. take at xs ++ drop n xs) (add-zero at) ∙ take-append-drop at xs

  -- the length stays
  length_over : (xs : List A) (at : ℕ) (new : List A) → at + length new ≤ length xs → length (over xs at new) ≡ length xs
  length_over xs at new h =
      let t : at ≤ length xs = omega arith in
      rw (length-append (take at xs) (new ++ drop (at + length new) xs), length-append new (drop (at + length new) xs), length-take-le at xs t, length-drop)
      (omega arith)

  -- one element is a store
  set_over : (xs : List A) (at : ℕ) (a : A) → at < length xs → set xs at a ≡ over xs at (a ∷ [])
  set_over xs at a h = set_split xs at a h ∙ ap (λ n. take at xs ++ a ∷ drop n xs) (sym (add-one at))

  -- new elements right after new elements
  over_over : (xs : List A) (at : ℕ) (a b : List A) → at + length a ≤ length xs → over (over xs at a) (at + length a) b ≡ over xs at (a ++ b)
  over_over xs at a b h =
      let m = at + length a in
      let p = take at xs ++ a in
      let q = drop m xs in
      let t : at ≤ length xs = omega arith in
      let l : length p ≡ m = length-append (take at xs) a ∙ ap (λ n. n + length a) (length-take-le at xs t) in
      let w : over xs at a ≡ p ++ q = sym (append_assoc (take at xs) a q) in
      let back : drop (m + length b) (p ++ q) ≡ drop (at + length (a ++ b)) xs =
      ap (λ n. drop (n + length b) (p ++ q)) (sym l) ∙ drop-append-add p q (length b) ∙ drop-drop (length b) m xs
      ∙ ap (λ n. drop n xs) (add_assoc at (length a) (length b) ∙ ap (λ n. at + n) (sym (length-append a b))) in
      ap (λ l. take m l ++ (b ++ drop (m + length b) l)) w
      ∙ ap (λ l. l ++ (b ++ drop (m + length b) (p ++ q))) (take_at p q m l)
      ∙ ap (λ l. p ++ (b ++ l)) back
      ∙ append_assoc (take at xs) a (b ++ drop (at + length (a ++ b)) xs)
      ∙ ap (λ l. take at xs ++ l) (sym (append_assoc a b (drop (at + length (a ++ b)) xs)))

  -- ---- writes one after another

  pub record WroteAt (xs : List A) (at : ℕ) (new out : List A) : Type 0 where
    pub is : out ≡ over xs at new
    pub fits : at + length new ≤ length xs

  pub wrote_length : {xs : List A} {at : ℕ} {new out : List A} → WroteAt xs at new out → length out ≡ length xs
  wrote_length {xs} {at} {new} w = ap length w.is ∙ length_over xs at new w.fits

  pub wrote_none : (xs : List A) (at : ℕ) → at ≤ length xs → WroteAt xs at [] xs
  wrote_none xs at h = record { is = sym (over_none xs at); fits = omega arith }

  module _ {xs : List A} {at : ℕ} {new out : List A} (w : WroteAt xs at new out) where
    -- more, from i on, which is where the last write ended
    pub then_over : (i : ℕ) (more : List A) {out' : List A} → i ≡ at + length new → i + length more ≤ length xs → out' ≡ over out i more → WroteAt xs at (new ++ more) out'
    then_over i more e h o =
        record {
          is = o ∙ ap (λ n. over out n more) e ∙ ap (λ l. over l (at + length new) more) w.is ∙ over_over xs at new more w.fits;
          fits = rw (length-append new more) (omega arith);
        }

    pub then_set : (i : ℕ) (a : A) → i ≡ at + length new → i < length xs → WroteAt xs at (new ++ (a ∷ [])) (set out i a)
    then_set i a e h =
        let l : i < length out = omega (arith, wrote_length w) in
        then_over i (a ∷ []) e (omega arith) (set_over out i a l)

  -- ---- a loop that writes a whole

  -- so far: written of the whole, up to `to`, with the rest to come
  pub record Sofar (xs : List A) (at : ℕ) (whole rest : List A) (to : ℕ) (out : List A) : Type 0 where
    pub written : List A
    pub wrote : WroteAt xs at written out
    pub ends : to ≡ at + length written
    pub is : written ++ rest ≡ whole

  pub sofar_none : (xs : List A) (at : ℕ) (whole : List A) → at ≤ length xs → Sofar xs at whole whole at xs
  sofar_none xs at whole h = record { written = []; wrote = wrote_none xs at h; ends = omega arith; is = refl }

  module _ {xs : List A} {at : ℕ} {whole rest : List A} {to : ℕ} {out : List A} (s : Sofar xs at whole rest to out) where
    -- what is to come has room where the whole has
    pub room : at + length whole ≤ length xs → to + length rest ≤ length xs
    room h = omega (arith, s.ends, length-append s.written rest, ap length s.is)

    -- more of it
    pub sofar_more : (more rest' : List A) {out' : List A} → rest ≡ more ++ rest' → to + length more ≤ length xs → out' ≡ over out to more
        → Sofar xs at whole rest' (to + length more) out'
    sofar_more more rest' e h o =
        record {
          written = s.written ++ more;
          wrote = then_over s.wrote to more s.ends h o;
          ends = rw (length-append s.written more) (omega (arith, s.ends));
          is = append_assoc s.written more rest' ∙ ap (λ l. s.written ++ l) (sym e) ∙ s.is;
        }

    -- all of it
    pub sofar_all : rest ≡ [] → out ≡ over xs at whole
    sofar_all e = s.wrote.is ∙ ap (over xs at) (sym (append-nil s.written) ∙ ap (λ l. s.written ++ l) (sym e) ∙ s.is)
