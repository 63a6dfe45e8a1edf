-- Records that are copied one after another into an array of 4,096 numbers: the array then begins with the flat list of their edges. Assumes nothing.
use mathlib.Core.Path.{◌≡◌, refl, sym, ◌∙◌, ap}
use mathlib.Core.List.{List, [], ◌∷◌, ◌++◌, append-nil, append_assoc}
use Prim.Native.Nat.{ℕ, ◌+◌, ◌*◌, ◌≤◌, ◌<◌, zero-le}
use native.Mathlib.Numerals.{add-one}
use native.Mathlib.Omega.{arith}
use lib.IntN.{ℤ, pos}
use lib.ListN.{length, get_or, take, drop, replicate, length-append, length-replicate, drop_of_length-le}
use lib.Seq.{sets, sets-eq, length-sets, length-take-le, take_at, drop-cons}
use Rattle.records.specs.Records.{edges_of}
use Rattle.rounds.specs.declared.Box.{Box}

-- four numbers for each record
pub edges_length : (bs : List Box) → length (edges_of bs) ≡ length bs * 4
edges_length [] = refl
edges_length (b ∷ bs) = omega (arith, edges_length bs)

-- what stands past the end of a list of records
abbrev pub no_box : Box
no_box = record { west = pos 0; south = pos 0; east = pos 0; north = pos 0 }

-- the array with the edges of b at place i
abbrev pub box_put : List ℤ → ℕ → Box → List ℤ
box_put xs i b = sets xs (i * 4) (edges_of (b ∷ []))

-- ---- the loop

-- the first i records of bs are copied, and the others follow in the flat list
pub record Copied (bs : List Box) (i : ℕ) (xs : List ℤ) : Type 0 where
  pub long : length xs ≡ 4096
  pub within : i ≤ length bs
  pub so_far : take (i * 4) xs ++ edges_of (drop i bs) ≡ edges_of bs

-- none is copied
pub starts : (bs : List Box) → Copied bs 0 (replicate 4096 (pos 0))
starts bs = record { long = length-replicate 4096 (pos 0); within = zero-le; so_far = refl }

module _ (bs : List Box) (i : ℕ) (xs : List ℤ) (h : Copied bs i xs) (l : i < length bs) (m : i < 1024) where
  -- the front that stays
  front : length (take (i * 4) xs) ≡ i * 4
  front = length-take-le (i * 4) xs (omega (arith, h.long))

  put_front : take ((i + 1) * 4) (box_put xs i (get_or bs i no_box)) ≡ take (i * 4) xs ++ edges_of (get_or bs i no_box ∷ [])
  put_front =
      ap (take ((i + 1) * 4)) (sets-eq (edges_of (get_or bs i no_box ∷ [])) xs (i * 4) (omega (arith, h.long)))
      ∙ take_at (take (i * 4) xs ++ edges_of (get_or bs i no_box ∷ [])) (drop (i * 4 + 4) xs) ((i + 1) * 4) (simp (length-append, front) (omega arith))

  -- one record more
  pub goes_on : Copied bs (i + 1) (box_put xs i (get_or bs i no_box))
  goes_on =
      record {
        long = length-sets xs (i * 4) (edges_of (get_or bs i no_box ∷ [])) ∙ h.long;
        within = omega arith;
        so_far =
            rw (put_front, append_assoc, add-one i)
            (ap (λ (ys : List Box). take (i * 4) xs ++ edges_of ys) (sym (drop-cons bs i no_box l)) ∙ h.so_far);
      }

-- no record is left
pub ends : (bs : List Box) (i : ℕ) (xs : List ℤ) → Copied bs i xs → length bs ≤ i → take (length bs * 4) xs ≡ edges_of bs
ends bs i xs h l =
    let n : length bs ≡ i = omega (arith, h.within) in
    rw n (sym (append-nil (take (i * 4) xs)) ∙ ap (λ (ys : List Box). take (i * 4) xs ++ edges_of ys) (sym (drop_of_length-le bs {i = i} l)) ∙ h.so_far)
