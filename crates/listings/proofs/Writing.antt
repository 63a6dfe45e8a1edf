-- Numbers that a loop writes over the front of a buffer, and one writer behind another. Assumes nothing.
use mathlib.Core.Path.{◌≡◌, refl, sym, ◌∙◌, ap, ap₂}
use mathlib.Core.List.{List, [], ◌∷◌, ◌++◌, append_assoc}
use Prim.Native.Nat.{ℕ, zero, suc, ◌+◌, ◌-◌, ◌*◌, ◌≤◌, ◌<◌}
use native.Mathlib.Omega.{arith}
use lib.IntN.{ℤ, pos}
use lib.ListN.{length, get_or, take, drop, set, length-append, length-replicate}
use lib.Seq.{length-take-le, take_all, take_at, drop-drop, drop-append-add}
use Rattle.plane.specs.declared.Point.{Point}
use Rattle.integers.proofs.Parts.{over_more, then_write}
use Rattle.listings.specs.Listings.{flat, zeros, over_front, listing}

-- ---- a loop that writes s over_front d, number by number

-- the first j are written
abbrev pub partly : List ℤ → List ℤ → ℕ → List ℤ
partly s d j = take j s ++ drop j d

-- all are written
pub partly_all : (s d : List ℤ) (j : ℕ) → j ≡ length s → partly s d j ≡ over_front s d
partly_all s d j e = rw e (ap (λ l. l ++ drop (length s) d) (take_all (length s) s (omega arith)))

-- one more, and two more
pub one_more : (s d xs : List ℤ) (j : ℕ) (a : ℤ) → j < length s → j < length d → xs ≡ partly s d j → a ≡ get_or s j (pos 0) → set xs j a ≡ partly s d (j + 1)
one_more s d xs j a h k e p = rw (e, p) (over_more d s j (pos 0) k h)

pub two_more : (s d xs : List ℤ) (j : ℕ) (a b : ℤ) → j + 1 < length s → j + 1 < length d → xs ≡ partly s d j → a ≡ get_or s j (pos 0) → b ≡ get_or s (j + 1) (pos 0)
    → set (set xs j a) (j + 1) b ≡ partly s d (j + 1 + 1)
two_more s d xs j a b h k e p q = one_more s d (set xs j a) (j + 1) b h k (one_more s d xs j a (omega arith) (omega arith) e p) q

-- ---- the numbers of vertices

pub flat_length : (vs : List Point) → length (flat vs) ≡ length vs * 2
unfolding flat
flat_length [] = refl
flat_length (v ∷ vs) = omega (arith, flat_length vs)

pub flat_append : (vs ws : List Point) → flat (vs ++ ws) ≡ flat vs ++ flat ws
unfolding flat
flat_append [] ws = refl
flat_append (v ∷ vs) ws = rw (flat_append vs ws)

-- east and north of the vertex at place i
pub flat_east : (z : Point) (vs : List Point) (i : ℕ) → i < length vs → get_or (flat vs) (i * 2) (pos 0) ≡ (get_or vs i z).east
unfolding flat
flat_east z [] i h = absurd (omega arith)
flat_east z (v ∷ vs) zero h = refl
flat_east z (v ∷ vs) (suc i) h =
    let e : suc i * 2 ≡ suc (suc (i * 2)) = omega arith in
    rw e (flat_east z vs i (omega arith))

pub flat_north : (z : Point) (vs : List Point) (i : ℕ) → i < length vs → get_or (flat vs) (i * 2 + 1) (pos 0) ≡ (get_or vs i z).north
unfolding flat
flat_north z [] i h = absurd (omega arith)
flat_north z (v ∷ vs) zero h = refl
flat_north z (v ∷ vs) (suc i) h =
    let e : suc i * 2 + 1 ≡ suc (suc (i * 2 + 1)) = omega arith in
    rw e (flat_north z vs i (omega arith))

-- ---- one writer behind another

-- b is written behind a, which stands in front of xs
pub over_behind : (a b d xs : List ℤ) (k : ℕ) → length a ≡ k → k ≤ length d → xs ≡ over_front a d → take k xs ++ over_front b (drop k xs) ≡ over_front (a ++ b) d
over_behind a b d xs k e h p = rw (p, ← e) (then_write d a b (omega arith)) ∙ ap (λ n. (a ++ b) ++ drop n d) (sym (length-append a b))

-- s behind the first k, which are unchanged, is both together over the front
pub over_part : (k : ℕ) (s d : List ℤ) → k ≤ length d → over_front (take k d ++ s) d ≡ take k d ++ over_front s (drop k d)
over_part k s d h =
    let e : length (take k d ++ s) ≡ k + length s = simp length-append (omega (arith, length-take-le k d h)) in
    append_assoc (take k d) s (drop (length (take k d ++ s)) d) ∙ ap (λ n. take k d ++ (s ++ drop n d)) e ∙ ap (λ l. take k d ++ (s ++ l)) (sym (drop-drop (length s) k d))

-- zeros up to n behind the vertices
pub zeros_behind : (vs : List Point) (d xs : List ℤ) (n k : ℕ) → length vs * 2 ≡ k → k ≤ n → xs ≡ over_front (flat vs) d → take k xs ++ zeros (n - k) ++ drop n xs ≡ over_front (listing n vs) d
zeros_behind vs d xs n k e h p =
    rw (p, take_at (flat vs) (drop (length (flat vs)) d) k long)
    (let m : n - k ≡ n - 2 * length vs = omega arith in
    ap₂ (λ m rest. flat vs ++ zeros m ++ rest) m beyond ∙ ap (λ j. listing n vs ++ drop j d) (sym all))
  where
    long : length (flat vs) ≡ k
    long = flat_length vs ∙ e

    all : length (listing n vs) ≡ n
    all = omega (arith, length-append (flat vs) (zeros (n - 2 * length vs)), length-replicate (n - 2 * length vs) (pos 0), long)

    beyond : drop n (over_front (flat vs) d) ≡ drop n d
    beyond =
        let s : n ≡ length (flat vs) + (n - k) = omega (arith, long) in
        ap (λ m. drop m (over_front (flat vs) d)) s ∙ drop-append-add (flat vs) (drop (length (flat vs)) d) (n - k)
        ∙ drop-drop (n - k) (length (flat vs)) d ∙ ap (λ m. drop m d) (sym s)
