-- The corner of a box by its place, and the entry that names it. Assumes nothing.
use mathlib.Core.Path.{◌≡◌, refl, sym, ◌∙◌, ap}
use mathlib.Core.Bool.{Bool, cond}
use mathlib.Core.List.{List, [], ◌∷◌}
use Prim.Native.Nat.{ℕ, zero, suc, ◌+◌, ◌<◌}
use native.Mathlib.Omega.{arith}
use lib.IntN.{pos}
use lib.ListN.{length, get_or}
use Rattle.plane.specs.Points.{point}
use Rattle.turns.specs.Keys.{KeyOf}
use Rattle.rounds.specs.Boxes.{corner_of, corners_of}
use Rattle.rounds.specs.Reasons.{corner_at}
use Rattle.rounds.specs.declared.Box.{Box}
use Rattle.rounds.specs.declared.Corner.{Corner}
use Rattle.rounds.proofs.Entries.{Test, equal, unequal, test}
use Rattle.corners.specs.Corners.{nth_corner}
use Rattle.cones.specs.Cones.{CornerOf}

-- the corner that an entry names, where the list's first box has the number n, by the box's place from 0
corner_at_place : (n : ℕ) (bs : List Box) (k w : ℕ) (c : Corner) → k < length bs
    → corner_at n bs (record { number = n + k; corner = c; weight = w }) ≡ get_or (corners_of c bs) k (point (pos 0) (pos 0))
corner_at_place n [] k w c h = absurd (omega arith)
corner_at_place n (b ∷ bs) zero w c h = go (test n (n + 0))
  where
    go : {t : Bool} → Test n (n + 0) t → cond t (corner_of c b) (corner_at (suc n) bs (record { number = n + 0; corner = c; weight = w })) ≡ corner_of c b
    go (equal e) = refl
    go (unequal e) = absurd (e (omega arith))
corner_at_place n (b ∷ bs) (suc k) w c h = go (test n (n + suc k)) (rest (omega arith) (corner_at_place (suc n) bs k w c (omega arith)))
  where
    rest : n + suc k ≡ suc n + k → corner_at (suc n) bs (record { number = suc n + k; corner = c; weight = w }) ≡ get_or (corners_of c bs) k (point (pos 0) (pos 0))
        → corner_at (suc n) bs (record { number = n + suc k; corner = c; weight = w }) ≡ get_or (corners_of c bs) k (point (pos 0) (pos 0))
    rest e r = ap (λ m. corner_at (suc n) bs (record { number = m; corner = c; weight = w })) e ∙ r

    go : {t : Bool} → Test n (n + suc k) t
        → corner_at (suc n) bs (record { number = n + suc k; corner = c; weight = w }) ≡ get_or (corners_of c bs) k (point (pos 0) (pos 0))
        → cond t (corner_of c b) (corner_at (suc n) bs (record { number = n + suc k; corner = c; weight = w })) ≡ get_or (corners_of c bs) k (point (pos 0) (pos 0))
    go (equal e) r = absurd (omega arith)
    go (unequal e) r = r

-- a corner's key, with its box's number and its name
pub corner_of_lem : (bs : List Box) (c : Corner) (k key number : ℕ) → k < length bs → number ≡ k + 1 → KeyOf (nth_corner c bs k) key
    → CornerOf bs c k (record { key = key; number = number; corner = c })
corner_of_lem bs c k key number h e o =
    record {
      named = record {
        key = o.key;
        least = omega arith;
        most = omega arith;
        is = λ w.
            let n : number ≡ 1 + k = omega arith in
            ap (λ m. corner_at 1 bs (record { number = m; corner = c; weight = w })) n ∙ corner_at_place 1 bs k w c h ∙ sym o.is;
      };
      is = o.is;
    }
