-- Keys that a loop writes, box by box, and the list that they then are. Assumes nothing.
use mathlib.Core.Path.{◌≡◌, sym, ◌∙◌, ap, ap₂, subst}
use mathlib.Core.List.{List, ◌++◌, map, map-append}
use Prim.Native.Nat.{ℕ, ◌+◌, ◌-◌, ◌/◌, ◌≤◌, ◌<◌}
use native.Mathlib.Decide.{dec_lt}
use native.Mathlib.Omega.{arith}
use lib.IntN.{ℤ, pos}
use lib.ListN.{length, get_or, take, drop, set, length-map, length-append, length-drop}
use lib.Seq.{length-take-le, take-append-add, take-append-le, get_or-take, ext_get_or, get_or-set_same, get_or-set_other}
use Rattle.plane.specs.Points.{point}
use Rattle.plane.specs.declared.Point.{Point}
use Rattle.plane.specs.Members.{All}
use Rattle.plane.proofs.Lists.{all_by_index, all_append, map_at}
use Rattle.turns.specs.Keys.{IsKey, KeyOf, point_of}
use Rattle.rounds.specs.Boxes.{boxes_of, corners_of}
use Rattle.rounds.specs.declared.Corner.{Corner}
use Rattle.corners.proofs.Places.{corners_length}
use Rattle.corner_lists.specs.KeyLists.{KeysOf}

-- the first k keys are those of the points' first k
pub record Filled (qs : List Point) (ks : List ℕ) (k : ℕ) : Type 0 where
  pub key : (i : ℕ) → i < k → KeyOf (get_or qs i (point (pos 0) (pos 0))) (get_or ks i 0)

pub filled_none : (qs : List Point) (ks : List ℕ) → Filled qs ks 0
filled_none qs ks = record { key = λ i h. absurd (omega arith) }

-- one more is written
pub filled_more : (qs : List Point) (ks : List ℕ) (k v : ℕ) → k < length ks → KeyOf (get_or qs k (point (pos 0) (pos 0))) v → Filled qs ks k → Filled qs (set ks k v) (k + 1)
filled_more qs ks k v l h f = record { key = λ i m. go i m (dec_lt i k) }
  where
    go : (i : ℕ) → i < k + 1 → Dec (i < k) → KeyOf (get_or qs i (point (pos 0) (pos 0))) (get_or (set ks k v) i 0)
    go i m (yes j) = rw (get_or-set_other ks k i v 0 (λ z. omega arith)) (f.key i j)
    go i m (no j) = let z : i ≡ k = omega arith in rw (z, get_or-set_same ks k v 0 l) h

-- all are written
pub filled_keys : (qs : List Point) (ks : List ℕ) → length qs ≤ length ks → Filled qs ks (length qs) → KeysOf qs ks
filled_keys qs ks l f =
    record { keys = all_by_index 0 (take (length qs) ks) key; points = ext_get_or (point (pos 0) (pos 0)) (map point_of (take (length qs) ks)) qs same_length same }
  where
    taken : length (take (length qs) ks) ≡ length qs
    taken = length-take-le (length qs) ks l

    at : (i : ℕ) → i < length qs → KeyOf (get_or qs i (point (pos 0) (pos 0))) (get_or (take (length qs) ks) i 0)
    at i h = rw (get_or-take (length qs) ks i 0 h) (f.key i h)

    key : (i : ℕ) → i < length (take (length qs) ks) → IsKey (get_or (take (length qs) ks) i 0)
    key i h = (at i (omega (arith, taken))).key

    same_length : length (map point_of (take (length qs) ks)) ≡ length qs
    same_length = length-map (take (length qs) ks) point_of ∙ taken

    same : (i : ℕ) → i < length (map point_of (take (length qs) ks)) → get_or (map point_of (take (length qs) ks)) i (point (pos 0) (pos 0)) ≡ get_or qs i (point (pos 0) (pos 0))
    same i h = map_at point_of 0 (point (pos 0) (pos 0)) (take (length qs) ks) i (omega (arith, taken, same_length)) ∙ (at i (omega (arith, same_length))).is

-- as many corners of two names as boxes, twice
pub two_length : (c d : Corner) (xs : List ℤ) → length (corners_of c (boxes_of xs) ++ corners_of d (boxes_of xs)) ≡ length xs / 4 + length xs / 4
two_length c d xs = simp length-append (omega (arith, corners_length c xs, corners_length d xs))

-- ---- keys behind keys: the first n of xs, and then those of ys, which stand in a part that was lent on

pub keys_append : (qs rs : List Point) (xs ys zs : List ℕ) (n : ℕ) → length qs ≡ n → n ≤ length xs → length rs ≤ length ys → KeysOf qs xs → KeysOf rs ys
    → KeysOf (qs ++ rs) (take n xs ++ (ys ++ zs))
keys_append qs rs xs ys zs n e h k f g =
    record {
      keys = subst (All IsKey) (sym front) (all_append f.keys g.keys);
      points = ap (map point_of) front ∙ map-append point_of (take (length qs) xs) (take (length rs) ys) ∙ ap₂ ◌++◌ f.points g.points;
    }
  where
    n_taken : length (take n xs) ≡ n
    n_taken = length-take-le n xs h

    front : take (length (qs ++ rs)) (take n xs ++ (ys ++ zs)) ≡ take (length qs) xs ++ take (length rs) ys
    front =
        let l : length (qs ++ rs) ≡ length (take n xs) + length rs = simp length-append (omega (arith, n_taken)) in
        rw (l, take-append-add (take n xs) (ys ++ zs) (length rs), take-append-le (length rs) ys zs k, e)

-- more may stand behind them
pub keys_before : (qs : List Point) (xs ys : List ℕ) → length qs ≤ length xs → KeysOf qs xs → KeysOf qs (xs ++ ys)
keys_before qs xs ys h f = let e = take-append-le (length qs) xs ys h in record { keys = rw e f.keys; points = rw e f.points }

-- the front of the list, as a list of keys
pub keys_listed : {qs : List Point} {ks : List ℕ} {n : ℕ} → length qs ≡ n → KeysOf qs ks → All IsKey (take n ks)
keys_listed {ks = ks} e f = subst (λ n. All IsKey (take n ks)) e f.keys

-- the part from n on, as the callee that was lent it sees it
pub part_length : (n : ℕ) (xs : List ℕ) → n ≤ length xs → length (take (length xs - n) (drop n xs)) ≡ length xs - n
part_length n xs h = length-take-le (length xs - n) (drop n xs) (simp length-drop (omega arith))
