-- The numbers of a record, and the writer's loops, box by box and plug by plug over flat lists. Assumes nothing.
use mathlib.Core.Path.{◌≡◌, refl, sym, ◌∙◌, ap, subst}
use mathlib.Core.List.{List, [], ◌∷◌, ◌++◌, flat_map, append-nil}
use Prim.Native.Nat.{ℕ, zero, suc, ◌+◌, ◌-◌, ◌*◌, ◌≤◌, ◌<◌}
use native.Mathlib.Numerals.{add-one}
use native.Mathlib.Omega.{arith}
use lib.IntN.{ℤ, pos}
use lib.ListN.{length, get_or, take, drop, set, length-take, length-drop, drop_of_length-le}
use lib.Seq.{drop-cons}
use mir.Syntax.{w32}
use mir.Val.{SFits, to_z, of_z}
use mir.ValLaws.{to_z-of_z}
use Rattle.plane.specs.declared.Point.{Point}
use Rattle.rounds.specs.Boxes.{boxes_of, box_at, plugs_of}
use Rattle.rounds.specs.declared.Box.{Box}
use Rattle.rounds.specs.Boxes.{plug_at}
use Rattle.integers.proofs.Parts.{drop_two, drop_four}
use Rattle.formats.specs.Format.{mark_length, box_length, plug_length, mark_bytes, four_bytes, number_bytes, number_at, file_box_at, file_plug_at, box_record, plug_record}
use Rattle.file_records.specs.Records.{numbers_at, over}
use Rattle.file_records.proofs.Over.{over_front_lem, WroteAt, then_set, Sofar, sofar_none, sofar_more}
use Rattle.formats.specs.Promises.{edges, coordinates}
use Rattle.file_records.proofs.Numbers.{part_over}
use Rattle.formats.proofs.Bytes.{length_box, length_plug}

-- ---- the numbers of a record

numbers_length : (file : List ℕ) (from n : ℕ) → length (numbers_at file from n) ≡ n
numbers_length file from zero = refl
numbers_length file from (suc n) = ap suc (numbers_length file (from + 4) n)

-- the last of them
numbers_last : (file : List ℕ) (from n : ℕ) → numbers_at file from (suc n) ≡ numbers_at file from n ++ (number_at file (from + 4 * n) ∷ [])
numbers_last file from zero = let e : from ≡ from + 4 * 0 = omega arith in ap (λ i. number_at file i ∷ []) e
numbers_last file from (suc n) =
    let e : from + 4 + 4 * n ≡ from + 4 * suc n = omega arith in
    ap (λ l. number_at file from ∷ l) (numbers_last file (from + 4) n ∙ ap (λ i. numbers_at file (from + 4) n ++ (number_at file i ∷ [])) e)

module _ (file : List ℕ) (from n : ℕ) {xs out : List ℤ} (w : WroteAt xs 0 (numbers_at file from n) out) where
  -- one more in a buffer
  pub number_put : {z : ℤ} → z ≡ number_at file (from + 4 * n) → n < length xs → WroteAt xs 0 (numbers_at file from (n + 1)) (set out n z)
  number_put e h =
      let m : numbers_at file from (n + 1) ≡ numbers_at file from n ++ (number_at file (from + 4 * n) ∷ []) = ap (numbers_at file from) (add-one n) ∙ numbers_last file from n in
      rw (m, ← e) (then_set w n _ (omega (arith, numbers_length file from n)) h)

  -- the buffer is full
  pub numbers_put : n ≡ length xs → out ≡ numbers_at file from (length xs)
  numbers_put e =
      let l = numbers_length file from n in
      w.is
      ∙ over_front_lem xs (numbers_at file from n)
      ∙ ap (λ ys. numbers_at file from n ++ ys) (drop_of_length-le xs (omega (arith, l, e)))
      ∙ append-nil (numbers_at file from n)
      ∙ ap (numbers_at file from) e

-- the numbers of a box and of a plug
pub edges_are : (file : List ℕ) (from : ℕ) → numbers_at file from 4 ≡ edges (file_box_at file from)
unfolding file_box_at
edges_are file from =
    let e : from + 4 + 4 ≡ from + 8 = omega arith in
    let f : from + 4 + 4 + 4 ≡ from + 12 = omega arith in
    λ i. number_at file from ∷ number_at file (from + 4) ∷ number_at file (e i) ∷ number_at file (f i) ∷ []

pub coordinates_are : (file : List ℕ) (from : ℕ) → numbers_at file from 2 ≡ coordinates (file_plug_at file from)
unfolding file_plug_at
coordinates_are file from = refl

-- they were put into a part of a buffer, `xs[to..to + n]`
pub part_put : (file : List ℕ) (from : ℕ) (xs : List ℤ) (to n : ℕ) {part new : List ℤ} → to + n ≤ length xs → numbers_at file from n ≡ new
    → part ≡ numbers_at file from (length (take (to + n - to) (drop to xs))) → take to xs ++ (part ++ drop (to + n - to) (drop to xs)) ≡ over xs to new
part_put file from xs to n h e p =
    let l : length (take (to + n - to) (drop to xs)) ≡ n = omega (arith, length-take (to + n - to) (drop to xs), length-drop to xs) in
    part_over xs to n (p ∙ ap (numbers_at file from) l ∙ e) (sym (ap length e) ∙ numbers_length file from n)

-- a mark is written, and the numbers are to come
pub mark_written : (file : List ℕ) (at mark : ℕ) (numbers : List ℤ) {out : List ℕ} → at + mark_length ≤ length file → out ≡ over file at (mark_bytes mark)
    → Sofar file at (mark_bytes mark ++ flat_map number_bytes numbers) (flat_map number_bytes (drop 0 numbers)) (at + mark_length + 4 * 0) out
unfolding mark_bytes
mark_written file at mark numbers {out} h e =
    let whole = mark_bytes mark ++ flat_map number_bytes numbers in
    let to : at + mark_length + 4 * 0 ≡ at + mark_length = omega arith in
    rw to (sofar_more (sofar_none file at whole (omega arith)) (mark_bytes mark) (flat_map number_bytes numbers) refl (omega arith) e)

-- one more number is written; the callee is passed what is read back from its bits
pub number_written : {file : List ℕ} {at : ℕ} (from n : ℕ) {whole out out' : List ℕ} (numbers : List ℤ) → Sofar file at whole (flat_map number_bytes (drop n numbers)) (from + 4 * n) out
    → n < length numbers → from + 4 * length numbers ≤ length file → SFits w32 (get_or numbers n (pos 0))
    → out' ≡ over out (from + 4 * n) (number_bytes (to_z w32 (of_z w32 (get_or numbers n (pos 0)))))
    → Sofar file at whole (flat_map number_bytes (drop (n + 1) numbers)) (from + 4 * (n + 1)) out'
unfolding flat_map number_bytes four_bytes
number_written {file} {at} from n {whole} {out} {out'} numbers s h l f e =
    let z = get_or numbers n (pos 0) in
    let next = flat_map number_bytes (drop (n + 1) numbers) in
    let split : flat_map number_bytes (drop n numbers) ≡ number_bytes z ++ next = ap (flat_map number_bytes) (drop-cons numbers n (pos 0) h ∙ ap (λ i. z ∷ drop i numbers) (sym (add-one n))) in
    let to : from + 4 * n + 4 ≡ from + 4 * (n + 1) = omega arith in
    subst (λ i. Sofar file at whole next i out') to
    (sofar_more s (number_bytes z) next split (omega arith) (e ∙ ap (λ x. over out (from + 4 * n) (number_bytes x)) (to_z-of_z w32 z f)))

-- numbers that are passed on in an array are read back from their bits
abbrev pub passed : ℤ → ℤ
passed z = to_z w32 (of_z w32 z)

pub two_passed : {a b : ℤ} → SFits w32 a → SFits w32 b → passed a ∷ passed b ∷ [] ≡ a ∷ b ∷ []
two_passed fa fb = rw (to_z-of_z w32 _ fa, to_z-of_z w32 _ fb)

pub four_passed : {a b c d : ℤ} → SFits w32 a → SFits w32 b → SFits w32 c → SFits w32 d → passed a ∷ passed b ∷ passed c ∷ passed d ∷ [] ≡ a ∷ b ∷ c ∷ d ∷ []
four_passed fa fb fc fd = rw (to_z-of_z w32 _ fa, to_z-of_z w32 _ fb, to_z-of_z w32 _ fc, to_z-of_z w32 _ fd)

-- ---- a turn of a loop

-- the records of the boxes and of the plugs of a flat list, from its i-th number on
abbrev pub box_records : List ℤ → ℕ → List ℕ
box_records xs i = flat_map box_record (boxes_of (drop i xs))

abbrev pub plug_records : List ℤ → ℕ → List ℕ
plug_records xs i = flat_map plug_record (plugs_of (drop i xs))

-- elements of a flat list, so many numbers each, and the record of each, which is `size` bytes long
pub record Encoding (E : Type 0) : Type 0 where
  pub numbers : ℕ
  pub size : ℕ
  pub all : List ℤ → List E
  pub row : List ℤ → ℕ → E
  pub bytes : E → List ℕ
  pub long : (x : E) → length (bytes x) ≡ size
  pub first : (xs : List ℤ) (i : ℕ) → i + numbers ≤ length xs → all (drop i xs) ≡ row xs i ∷ all (drop (i + numbers) xs)

abbrev pub box_encoding : Encoding Box
box_encoding =
    record {
      numbers = 4;
      size = box_length;
      all = boxes_of;
      row = box_at;
      bytes = box_record;
      long = length_box;
      first = λ xs i h. ap boxes_of (drop_four (pos 0) xs i (omega arith));
    }

abbrev pub plug_encoding : Encoding Point
plug_encoding =
    record {
      numbers = 2;
      size = plug_length;
      all = plugs_of;
      row = plug_at;
      bytes = plug_record;
      long = length_plug;
      first = λ xs i h. ap plugs_of (drop_two (pos 0) xs i (omega arith));
    }

-- element k, counted from 0, is written after those before it
module _ {E : Type 0} (R : Encoding E) (xs : List ℤ) (k : ℕ) {file : List ℕ} {at to to' : ℕ} {whole out out' : List ℕ} where
  pub row_turn : Sofar file at whole (flat_map R.bytes (R.all (drop (k * R.numbers) xs))) to out → k * R.numbers + R.numbers ≤ length xs
      → to + R.size ≡ to' → to' ≤ length file → out' ≡ over out to (R.bytes (R.row xs (k * R.numbers)))
      → Sofar file at whole (flat_map R.bytes (R.all (drop ((k + 1) * R.numbers) xs))) to' out'
  unfolding flat_map
  row_turn s h t r e =
      let x = R.row xs (k * R.numbers) in
      let l = R.long x in
      let i : k * R.numbers + R.numbers ≡ (k + 1) * R.numbers = omega arith in
      let m : to + length (R.bytes x) ≡ to' = omega arith in
      let next = flat_map R.bytes (R.all (drop ((k + 1) * R.numbers) xs)) in
      let split = ap (flat_map R.bytes) (R.first xs (k * R.numbers) h) ∙ ap (λ j. R.bytes x ++ flat_map R.bytes (R.all (drop j xs))) i in
      subst (λ j. Sofar file at whole next j out') m (sofar_more s (R.bytes x) next split (omega arith) e)

-- ---- none left

module _ (xs : List ℤ) where
  pub no_box_lem : (i : ℕ) → length xs < i + 4 → box_records xs i ≡ []
  unfolding flat_map
  no_box_lem i h = go (drop i xs) (omega (arith, length-drop i xs))
    where
      go : (l : List ℤ) → length l < 4 → flat_map box_record (boxes_of l) ≡ []
      go [] k = refl
      go (w ∷ []) k = refl
      go (w ∷ s ∷ []) k = refl
      go (w ∷ s ∷ e ∷ []) k = refl
      go (w ∷ s ∷ e ∷ n ∷ l) k = absurd (omega arith)

  pub no_plug : (i : ℕ) → length xs < i + 2 → plug_records xs i ≡ []
  unfolding flat_map
  no_plug i h = go (drop i xs) (omega (arith, length-drop i xs))
    where
      go : (l : List ℤ) → length l < 2 → flat_map plug_record (plugs_of l) ≡ []
      go [] k = refl
      go (e ∷ []) k = refl
      go (e ∷ n ∷ l) k = absurd (omega arith)
