-- Entries of box, corner and weight whose weighted sum of (corner − plug) is zero. The pick that they choose has the plug in its hull, and there is such a pick:
-- its denominator is the product of the positive weights of the boxes. Assumes nothing.
use Prim.Native.Nat.{ℕ, zero, suc, ◌+◌, ◌*◌, ◌<◌, ◌≤◌}
use mathlib.Core.Bool.{cond, Bool, true, false}
use mathlib.Core.Path.{◌≡◌, refl, sym, ◌∙◌, ap, ap₂, subst}
use mathlib.Core.Logic.{⊎_elim}
use mathlib.Core.List.{List, [], ◌∷◌, ◌++◌, map}
use native.Mathlib.Omega.{arith}
use Rattle.std.proofs.lemmas.Int.{ints}
use Rattle.std.proofs.lemmas.Bool.Decides.{nat_tests, eqb_tells}
use Rattle.std.proofs.Math.Nat.{mul-lt-mul_of_pos_right}
use borrow.Author.Tests.{eq-eqb, ne_eqb}
use lib.Dec.{eqb, lit<}
use lib.IntN.{ℤ, pos, ◌+ℤ◌, ◌*ℤ◌, ◌-ℤ◌}
use lib.Signed.{◌≤ℤ◌}
use lib.ListN.{length, length-map}
use Rattle.integers.proofs.Expr.{◌⊕◌, ◌⊖◌, ◌⊗◌, ⊝◌, #◌, ◌≼◌, ◌≐◌, ◌⟹◌}
use Rattle.integers.proofs.Lin.{lin}
use Rattle.integers.proofs.Ring.{ring}
use Rattle.integers.proofs.Cert.{cert, hyp, num, eqn, ◌⊞◌, ◌⊠◌, ◌∵◌}
use Rattle.integers.proofs.Order.{pos_nn, ◌≤ᶻ◌}
use Rattle.plane.specs.declared.Point.{Point}
use Rattle.plane.specs.Members.{All, none, ◌&◌, ◌∈◌, here, there}
use Rattle.plane.specs.Vectors.{from, total, weighted, Balanced}
use Rattle.plane.proofs.Lists.{in_append}
use Rattle.rounds.specs.Boxes.{Ordered, corner_of, corners_of, all_corners}
use Rattle.rounds.proofs.Corners.{corner_within}
use Rattle.rounds.specs.declared.Box.{Box}
use Rattle.rounds.specs.Picks.{InBox, Each, Pick}
use Rattle.rounds.specs.Reasons.{corner_at, SecondReason, weight_at, sum_at, Chosen, mean, south_west}
use Rattle.rounds.specs.declared.Entry.{Entry}
use Rattle.rounds.specs.Words.{SecondSucceeds}
use Rattle.rounds.specs.declared.Corner.{Corner}
use Rattle.rounds.specs.declared.Corner.TheVariants.{SouthWest, SouthEast, NorthEast, NorthWest}

-- ---- the sum over boxes, and over entries, is the same

-- the boxes' weights, the first box having the number n
abbrev shares : List Entry → ℕ → List Box → List ℕ
shares es n [] = []
shares es n (b ∷ bs) = weight_at es n ∷ shares es (suc n) bs

-- the sum over the boxes of what f makes of each one's entries
abbrev boxes_sum : (Point → ℤ) → List Entry → ℕ → List Box → ℤ
boxes_sum f es n [] = pos 0
boxes_sum f es n (b ∷ bs) = sum_at f es n b +ℤ boxes_sum f es (suc n) bs

-- one entry's part, over the boxes
abbrev one_sum : (Point → ℤ) → Entry → ℕ → List Box → ℤ
one_sum f e n [] = pos 0
one_sum f e n (b ∷ bs) = cond (eqb n e.number) (pos e.weight *ℤ f (corner_of e.corner b)) (pos 0) +ℤ one_sum f e (suc n) bs

boxes_sum_nil : (f : Point → ℤ) (n : ℕ) (bs : List Box) → boxes_sum f [] n bs ≡ pos 0
boxes_sum_nil f n [] = refl
boxes_sum_nil f n (b ∷ bs) = omega (arith, ints, boxes_sum_nil f (suc n) bs)

boxes_sum_cons : (f : Point → ℤ) (e : Entry) (es : List Entry) (n : ℕ) (bs : List Box) → boxes_sum f (e ∷ es) n bs ≡ one_sum f e n bs +ℤ boxes_sum f es n bs
boxes_sum_cons f e es n [] = refl
boxes_sum_cons f e es n (b ∷ bs) = omega (arith, ints, boxes_sum_cons f e es (suc n) bs)

-- what the test of two numbers says
pub data Test (m n : ℕ) : Bool → Type 0 where
  equal : m ≡ n → Test m n true
  unequal : (m ≡ n → ⊥) → Test m n false

pub test : (m n : ℕ) → Test m n (eqb m n)
test m n = ⊎_elim (λ r. subst (Test m n) (sym r.0) (equal r.1)) (λ r. subst (Test m n) (sym r.0) (unequal r.1)) (eqb_tells m n)

-- a number that the list has passed
one_sum_passed : (f : Point → ℤ) (e : Entry) (n : ℕ) (bs : List Box) → e.number < n → one_sum f e n bs ≡ pos 0
one_sum_passed f e n [] h = refl
one_sum_passed f e n (b ∷ bs) h = grind (arith, ints, nat_tests, one_sum_passed f e (suc n) bs (omega arith))

one_sum_is : (f : Point → ℤ) (e : Entry) (n : ℕ) (bs : List Box) → n ≤ e.number → e.number < n + length bs → one_sum f e n bs ≡ pos e.weight *ℤ f (corner_at n bs e)
one_sum_is f e n [] h k = absurd (omega arith)
one_sum_is f e n (b ∷ bs) h k = grind (arith, ints, nat_tests, one_sum_passed f e (suc n) bs, one_sum_is f e (suc n) bs)

swapped : (f : Point → ℤ) (bs : List Box) {es : List Entry} → All (λ e. (1 ≤ e.number) × (e.number ≤ length bs)) es
    → boxes_sum f es 1 bs ≡ weighted f (map (λ e. e.weight) es) (map (corner_at 1 bs) es)
swapped f bs none = boxes_sum_nil f 1 bs
swapped f bs (◌&◌ {x = e} {l = es} h hs) = boxes_sum_cons f e es 1 bs ∙ ap₂ ◌+ℤ◌ (one_sum_is f e 1 bs h.0 (omega (arith, h.1))) (swapped f bs hs)

-- ---- f less a constant, and the constant 1

sum_at_less : (f : Point → ℤ) (k : ℤ) (es : List Entry) (n : ℕ) (b : Box) → sum_at (λ c. f c -ℤ pos 1 *ℤ k) es n b ≡ sum_at f es n b -ℤ pos (weight_at es n) *ℤ k
sum_at_less f k [] n b = ring 0 1 (λ k. # 0 ≐ # 0 ⊖ # 0 ⊗ k) tt k
sum_at_less f k (e ∷ es) n b = go (eqb n e.number) (sum_at_less f k es n b)
  where
    x : ℤ
    x = f (corner_of e.corner b)

    go : (c : Bool) → sum_at (λ c. f c -ℤ pos 1 *ℤ k) es n b ≡ sum_at f es n b -ℤ pos (weight_at es n) *ℤ k
        → cond c (pos e.weight *ℤ (x -ℤ pos 1 *ℤ k)) (pos 0) +ℤ sum_at (λ c. f c -ℤ pos 1 *ℤ k) es n b
        ≡ (cond c (pos e.weight *ℤ x) (pos 0) +ℤ sum_at f es n b) -ℤ pos (cond c e.weight 0 + weight_at es n) *ℤ k
    go true r = lin 0 6 (λ w x k s t v. s ≐ t ⊖ v ⊗ k ⟹ w ⊗ (x ⊖ # 1 ⊗ k) ⊕ s ≐ (w ⊗ x ⊕ t) ⊖ (w ⊕ v) ⊗ k) (omega arith)
        (pos e.weight) x k (sum_at (λ c. f c -ℤ pos 1 *ℤ k) es n b) (sum_at f es n b) (pos (weight_at es n)) r
    go false r = lin 0 4 (λ k s t v. s ≐ t ⊖ v ⊗ k ⟹ # 0 ⊕ s ≐ (# 0 ⊕ t) ⊖ (# 0 ⊕ v) ⊗ k) (omega arith)
        k (sum_at (λ c. f c -ℤ pos 1 *ℤ k) es n b) (sum_at f es n b) (pos (weight_at es n)) r

sum_at_one : (es : List Entry) (n : ℕ) (b : Box) → sum_at (λ c. pos 1) es n b ≡ pos (weight_at es n)
sum_at_one [] n b = refl
sum_at_one (e ∷ es) n b = grind (arith, ints, nat_tests, sum_at_one es n b)

total_shares : (es : List Entry) (n : ℕ) (bs : List Box) → boxes_sum (λ c. pos 1) es n bs ≡ pos (total (shares es n bs))
total_shares es n [] = refl
total_shares es n (b ∷ bs) = omega (arith, ints, sum_at_one es n b, total_shares es (suc n) bs)

weighted_one : (ws : List ℕ) (vs : List Point) → length ws ≡ length vs → weighted (λ c. pos 1) ws vs ≡ pos (total ws)
weighted_one [] vs h = refl
weighted_one (w ∷ ws) [] h = absurd (omega arith)
weighted_one (w ∷ ws) (v ∷ vs) h = omega (arith, ints, weighted_one ws vs (omega arith))

-- ---- a pick that follows the entries is balanced by the boxes' weights

weightless : (f : Point → ℤ) (es : List Entry) (n : ℕ) (b : Box) → weight_at es n ≡ 0 → sum_at f es n b ≡ pos 0
weightless f [] n b h = refl
weightless f (e ∷ es) n b h = grind (arith, ints, nat_tests, weightless f es n b)

-- in one coordinate f, weight times point is d times the sum of the entries, at every box
data Adds (f : Point → ℤ) (es : List Entry) (d : ℕ) : ℕ → List Box → List Point → Type 0 where
  done : {n : ℕ} → Adds f es d n [] []
  add : {n : ℕ} {b : Box} {bs : List Box} {q : Point} {qs : List Point} → pos (weight_at es n) *ℤ f q ≡ pos d *ℤ sum_at f es n b
      → Adds f es d (suc n) bs qs → Adds f es d n (b ∷ bs) (q ∷ qs)

no_weight : (f : Point → ℤ) (es : List Entry) (d n : ℕ) (b : Box) (q : Point) → weight_at es n ≡ 0 → pos (weight_at es n) *ℤ f q ≡ pos d *ℤ sum_at f es n b
no_weight f es d n b q h =
    cert 0 4 (λ w d x s. w ≐ # 0 ⟹ s ≐ # 0 ⟹ w ⊗ x ≐ d ⊗ s ∵ eqn 0 x ⊞ eqn 1 (⊝ d)) tt (pos (weight_at es n)) (pos d) (f q) (sum_at f es n b) (ap pos h) (weightless f es n b h)

east_adds : {es : List Entry} {d n : ℕ} {bs : List Box} {qs : List Point} → Chosen es d n bs qs → Adds (λ v. v.east) es d n bs qs
east_adds Chosen.none = done
east_adds (mean h e f r) = add e (east_adds r)
east_adds {es} {d} {n} (south_west {b = b} {q = q} h e f r) = add (no_weight (λ v. v.east) es d n b q h) (east_adds r)

north_adds : {es : List Entry} {d n : ℕ} {bs : List Box} {qs : List Point} → Chosen es d n bs qs → Adds (λ v. v.north) es d n bs qs
north_adds Chosen.none = done
north_adds (mean h e f r) = add f (north_adds r)
north_adds {es} {d} {n} (south_west {b = b} {q = q} h e f r) = add (no_weight (λ v. v.north) es d n b q h) (north_adds r)

adds_sum : (f : Point → ℤ) (p : Point) {es : List Entry} {d n : ℕ} {bs : List Box} {qs : List Point} → ((q : Point) → f (from d p q) ≡ f q -ℤ pos d *ℤ f p)
    → Adds f es d n bs qs → weighted f (shares es n bs) (map (from d p) qs) ≡ pos d *ℤ boxes_sum (λ c. f c -ℤ pos 1 *ℤ f p) es n bs
adds_sum f p {d = d} g done = ring 0 1 (λ d. # 0 ≐ d ⊗ # 0) tt (pos d)
adds_sum f p {es} {d} {n} g (add {b = b} {bs = bs} {q = q} {qs = qs} e r) =
    cert 0 9 (λ w x y d s z k t u.
    w ⊗ x ≐ d ⊗ s ⟹ y ≐ x ⊖ d ⊗ k ⟹ z ≐ s ⊖ w ⊗ k ⟹ t ≐ d ⊗ u ⟹ w ⊗ y ⊕ t ≐ d ⊗ (z ⊕ u) ∵ eqn 0 (# 1) ⊞ eqn 1 w ⊞ eqn 2 (⊝ d) ⊞ eqn 3 (# 1)) tt
    (pos (weight_at es n)) (f q) (f (from d p q)) (pos d) (sum_at f es n b) (sum_at (λ c. f c -ℤ pos 1 *ℤ f p) es n b) (f p)
    (weighted f (shares es (suc n) bs) (map (from d p) qs)) (boxes_sum (λ c. f c -ℤ pos 1 *ℤ f p) es (suc n) bs)
    e (g q) (sum_at_less f (f p) es n b) (adds_sum f p g r)

shares_length : {es : List Entry} {d n : ℕ} (p : Point) {bs : List Box} {qs : List Point} → Chosen es d n bs qs → length (shares es n bs) ≡ length (map (from d p) qs)
shares_length p Chosen.none = refl
shares_length p (mean h e f r) = ap suc (shares_length p r)
shares_length p (south_west h e f r) = ap suc (shares_length p r)

-- the weights of the reason are the boxes'
sum_entries : (f : Point → ℤ) (p : Point) (bs : List Box) (es : List Entry) → ((q : Point) → f (from 1 p q) ≡ f q -ℤ pos 1 *ℤ f p)
    → weighted (λ c. f c -ℤ pos 1 *ℤ f p) (map (λ e. e.weight) es) (map (corner_at 1 bs) es) ≡ weighted f (map (λ e. e.weight) es) (map (λ e. from 1 p (corner_at 1 bs e)) es)
sum_entries f p bs [] g = refl
sum_entries f p bs (e ∷ es) g = ap₂ (λ x y. pos e.weight *ℤ x +ℤ y) (sym (g (corner_at 1 bs e))) (sum_entries f p bs es g)

pub chosen_balanced : {bs : List Box} (p : Point) (es : List Entry) (d : ℕ) (qs : List Point) → SecondReason bs p es → Chosen es d 1 bs qs → Balanced (map (from d p) qs)
chosen_balanced {bs} p es d qs r c =
    record {
      weights = shares es 1 bs;
      one_each = shares_length p c;
      some_weight = omega (arith, ints, totals, r.some_weight);
      east_sum = sum (λ v. v.east) (λ d q. refl) (east_adds c) r.east_sum;
      north_sum = sum (λ v. v.north) (λ d q. refl) (north_adds c) r.north_sum;
    }
  where
    totals : pos (total (map (λ e. e.weight) es)) ≡ pos (total (shares es 1 bs))
    totals =
        sym (weighted_one (map (λ e. e.weight) es) (map (corner_at 1 bs) es) (length-map es (λ e. e.weight) ∙ sym (length-map es (corner_at 1 bs))))
        ∙ sym (swapped (λ c. pos 1) bs r.named) ∙ total_shares es 1 bs

    sum : (f : Point → ℤ) → ((d : ℕ) (q : Point) → f (from d p q) ≡ f q -ℤ pos d *ℤ f p) → Adds f es d 1 bs qs
        → weighted f (map (λ e. e.weight) es) (map (λ e. from 1 p (corner_at 1 bs e)) es) ≡ pos 0 → weighted f (shares es 1 bs) (map (from d p) qs) ≡ pos 0
    sum f g a z =
        adds_sum f p (g d) a
        ∙ ap (λ x. pos d *ℤ x) (swapped (λ c. f c -ℤ pos 1 *ℤ f p) bs r.named ∙ sum_entries f p bs es (g 1) ∙ z)
        ∙ ring 0 1 (λ d. d ⊗ # 0 ≐ # 0) tt (pos d)

-- ---- there is such a pick

-- the sum of a box's entries lies between its weight times the least, and the greatest, of its corners
sum_at_bounds : (f : Point → ℤ) (l h : ℤ) (b : Box) → ((c : Corner) → (l ≤ℤ f (corner_of c b)) × (f (corner_of c b) ≤ℤ h)) → (es : List Entry) (n : ℕ)
    → (pos (weight_at es n) *ℤ l ≤ᶻ sum_at f es n b) × (sum_at f es n b ≤ᶻ pos (weight_at es n) *ℤ h)
sum_at_bounds f l h b g [] n = (omega (arith, ints), omega (arith, ints))
sum_at_bounds f l h b g (e ∷ es) n = go (eqb n e.number) (sum_at_bounds f l h b g es n)
  where
    x : ℤ
    x = f (corner_of e.corner b)

    go : (c : Bool) → (pos (weight_at es n) *ℤ l ≤ᶻ sum_at f es n b) × (sum_at f es n b ≤ᶻ pos (weight_at es n) *ℤ h)
        → (pos (cond c e.weight 0 + weight_at es n) *ℤ l ≤ᶻ cond c (pos e.weight *ℤ x) (pos 0) +ℤ sum_at f es n b)
        × (cond c (pos e.weight *ℤ x) (pos 0) +ℤ sum_at f es n b ≤ᶻ pos (cond c e.weight 0 + weight_at es n) *ℤ h)
    go true r = (
      cert 0 5 (λ w v l x s. # 0 ≼ w ⟹ l ≼ x ⟹ v ⊗ l ≼ s ⟹ (w ⊕ v) ⊗ l ≼ w ⊗ x ⊕ s ∵ hyp 0 ⊠ hyp 1 ⊞ hyp 2) tt
          (pos e.weight) (pos (weight_at es n)) l x (sum_at f es n b) (pos_nn _) (g e.corner).0 r.0,
      cert 0 5 (λ w v h x s. # 0 ≼ w ⟹ x ≼ h ⟹ s ≼ v ⊗ h ⟹ w ⊗ x ⊕ s ≼ (w ⊕ v) ⊗ h ∵ hyp 0 ⊠ hyp 1 ⊞ hyp 2) tt
          (pos e.weight) (pos (weight_at es n)) h x (sum_at f es n b) (pos_nn _) (g e.corner).1 r.1,
    )
    go false r = (omega (arith, ints), omega (arith, ints))

corner_east : (b : Box) → Ordered b → (c : Corner) → (b.west ≤ℤ (corner_of c b).east) × ((corner_of c b).east ≤ℤ b.east)
corner_east b o c = let w = corner_within c b o in (omega (arith, ints), omega (arith, ints))

corner_north : (b : Box) → Ordered b → (c : Corner) → (b.south ≤ℤ (corner_of c b).north) × ((corner_of c b).north ≤ℤ b.north)
corner_north b o c = let w = corner_within c b o in (omega (arith, ints), omega (arith, ints))

-- the same points over a denominator m times as large
abbrev scale : ℕ → Point → Point
scale m q = record { east = pos m *ℤ q.east; north = pos m *ℤ q.north }

scale_within : (m d : ℕ) {b : Box} {q : Point} → InBox d b q → InBox (m * d) b (scale m q)
scale_within m d {b} {q} w =
    record {
      from_west = under b.west q.east w.from_west;
      to_east = over b.east q.east w.to_east;
      from_south = under b.south q.north w.from_south;
      to_north = over b.north q.north w.to_north;
    }
  where
    under : (x y : ℤ) → pos d *ℤ x ≤ᶻ y → pos (m * d) *ℤ x ≤ᶻ pos m *ℤ y
    under x y h = cert 0 4 (λ m d x y. # 0 ≼ m ⟹ d ⊗ x ≼ y ⟹ (m ⊗ d) ⊗ x ≼ m ⊗ y ∵ hyp 0 ⊠ hyp 1) tt (pos m) (pos d) x y (pos_nn m) h

    over : (x y : ℤ) → y ≤ᶻ pos d *ℤ x → pos m *ℤ y ≤ᶻ pos (m * d) *ℤ x
    over x y h = cert 0 4 (λ m d x y. # 0 ≼ m ⟹ y ≼ d ⊗ x ⟹ m ⊗ y ≼ (m ⊗ d) ⊗ x ∵ hyp 0 ⊠ hyp 1) tt (pos m) (pos d) x y (pos_nn m) h

scale_each : (m d : ℕ) {bs : List Box} {qs : List Point} → Each d bs qs → Each (m * d) bs (map (scale m) qs)
scale_each m d Each.none = Each.none
scale_each m d (Each.◌&◌ w ws) = Each.◌&◌ (scale_within m d w) (scale_each m d ws)

scale_chosen : (m d : ℕ) {es : List Entry} {n : ℕ} {bs : List Box} {qs : List Point} → Chosen es d n bs qs → Chosen es (m * d) n bs (map (scale m) qs)
scale_chosen m d Chosen.none = Chosen.none
scale_chosen m d {es} {n} (mean {b = b} {q = q} h e f r) = mean h (times q.east (sum_at (λ c. c.east) es n b) e) (times q.north (sum_at (λ c. c.north) es n b) f) (scale_chosen m d r)
  where
    times : (x s : ℤ) → pos (weight_at es n) *ℤ x ≡ pos d *ℤ s → pos (weight_at es n) *ℤ (pos m *ℤ x) ≡ pos (m * d) *ℤ s
    times x s e = cert 0 5 (λ w m d x s. w ⊗ x ≐ d ⊗ s ⟹ w ⊗ (m ⊗ x) ≐ (m ⊗ d) ⊗ s ∵ eqn 0 m) tt (pos (weight_at es n)) (pos m) (pos d) x s e
scale_chosen m d (south_west {b = b} {q = q} h e f r) = south_west h (times q.east b.west e) (times q.north b.south f) (scale_chosen m d r)
  where
    times : (x s : ℤ) → x ≡ pos d *ℤ s → pos m *ℤ x ≡ pos (m * d) *ℤ s
    times x s e = cert 0 4 (λ m d x s. x ≐ d ⊗ s ⟹ m ⊗ x ≐ (m ⊗ d) ⊗ s ∵ eqn 0 m) tt (pos m) (pos d) x s e

-- the product of the positive weights, and the points over it
abbrev pub at_least_one : ℕ → ℕ
at_least_one zero = 1
at_least_one (suc w) = suc w

abbrev pub denominator_for : List Entry → ℕ → List Box → ℕ
denominator_for es n [] = 1
denominator_for es n (b ∷ bs) = at_least_one (weight_at es n) * denominator_for es (suc n) bs

-- d is the denominator of the boxes after this one
abbrev pub choice : ℕ → List Entry → ℕ → Box → ℕ → Point
choice d es n b zero = record { east = pos d *ℤ b.west; north = pos d *ℤ b.south }
choice d es n b (suc w) = record { east = pos d *ℤ sum_at (λ c. c.east) es n b; north = pos d *ℤ sum_at (λ c. c.north) es n b }

abbrev pub points_for : List Entry → ℕ → List Box → List Point
points_for es n [] = []
points_for es n (b ∷ bs) = choice (denominator_for es (suc n) bs) es n b (weight_at es n) ∷ map (scale (at_least_one (weight_at es n))) (points_for es (suc n) bs)

denominator_pos : (es : List Entry) (n : ℕ) (bs : List Box) → 0 < denominator_for es n bs
denominator_pos es n [] = lit< tt
denominator_pos es n (b ∷ bs) = go (weight_at es n) (denominator_pos es (suc n) bs)
  where
    go : (w : ℕ) {d : ℕ} → 0 < d → 0 < at_least_one w * d
    go zero h = omega arith
    go (suc w) {d} h = omega (arith, mul-lt-mul_of_pos_right {m = 0} {n = suc w} {k = d} (omega arith) h)

-- the first box's point, for its weight w
module _ (es : List Entry) (n : ℕ) (b : Box) (o : Ordered b) (d : ℕ) where
  choice_within : (w : ℕ) → weight_at es n ≡ w → InBox (at_least_one w * d) b (choice d es n b w)
  choice_within zero e =
      record {
        from_west = under b.west;
        to_east = over b.west b.east o.across;
        from_south = under b.south;
        to_north = over b.south b.north o.upward;
      }
    where
      under : (x : ℤ) → pos (1 * d) *ℤ x ≤ᶻ pos d *ℤ x
      under x = cert 0 2 (λ d x. (# 1 ⊗ d) ⊗ x ≼ d ⊗ x ∵ num 0) tt (pos d) x

      over : (x y : ℤ) → x ≤ℤ y → pos d *ℤ x ≤ᶻ pos (1 * d) *ℤ y
      over x y h = cert 0 3 (λ d x y. # 0 ≼ d ⟹ x ≼ y ⟹ d ⊗ x ≼ (# 1 ⊗ d) ⊗ y ∵ hyp 0 ⊠ hyp 1) tt (pos d) x y (pos_nn d) h
  choice_within (suc w) e =
      record {
        from_west = under b.west (sum_at (λ c. c.east) es n b) across.0;
        to_east = over b.east (sum_at (λ c. c.east) es n b) across.1;
        from_south = under b.south (sum_at (λ c. c.north) es n b) upward.0;
        to_north = over b.north (sum_at (λ c. c.north) es n b) upward.1;
      }
    where
      across : (pos (weight_at es n) *ℤ b.west ≤ᶻ sum_at (λ c. c.east) es n b) × (sum_at (λ c. c.east) es n b ≤ᶻ pos (weight_at es n) *ℤ b.east)
      across = sum_at_bounds (λ c. c.east) b.west b.east b (corner_east b o) es n

      upward : (pos (weight_at es n) *ℤ b.south ≤ᶻ sum_at (λ c. c.north) es n b) × (sum_at (λ c. c.north) es n b ≤ᶻ pos (weight_at es n) *ℤ b.north)
      upward = sum_at_bounds (λ c. c.north) b.south b.north b (corner_north b o) es n

      under : (x s : ℤ) → pos (weight_at es n) *ℤ x ≤ᶻ s → pos (suc w * d) *ℤ x ≤ᶻ pos d *ℤ s
      under x s h = cert 0 5 (λ v w d x s. v ≐ w ⟹ # 0 ≼ d ⟹ v ⊗ x ≼ s ⟹ (w ⊗ d) ⊗ x ≼ d ⊗ s ∵ hyp 1 ⊠ hyp 2 ⊞ eqn 0 (⊝ (d ⊗ x))) tt
          (pos (weight_at es n)) (pos (suc w)) (pos d) x s (ap pos e) (pos_nn d) h

      over : (x s : ℤ) → s ≤ᶻ pos (weight_at es n) *ℤ x → pos d *ℤ s ≤ᶻ pos (suc w * d) *ℤ x
      over x s h = cert 0 5 (λ v w d x s. v ≐ w ⟹ # 0 ≼ d ⟹ s ≼ v ⊗ x ⟹ d ⊗ s ≼ (w ⊗ d) ⊗ x ∵ hyp 1 ⊠ hyp 2 ⊞ eqn 0 (d ⊗ x)) tt
          (pos (weight_at es n)) (pos (suc w)) (pos d) x s (ap pos e) (pos_nn d) h

  choice_chosen : (w : ℕ) → weight_at es n ≡ w → {bs : List Box} {qs : List Point} → Chosen es (at_least_one w * d) (suc n) bs qs
      → Chosen es (at_least_one w * d) n (b ∷ bs) (choice d es n b w ∷ qs)
  choice_chosen zero e r = south_west e (ring 0 2 (λ d x. d ⊗ x ≐ (# 1 ⊗ d) ⊗ x) tt (pos d) b.west) (ring 0 2 (λ d x. d ⊗ x ≐ (# 1 ⊗ d) ⊗ x) tt (pos d) b.south) r
  choice_chosen (suc w) e r = mean {n = n} (omega arith) (times (sum_at (λ c. c.east) es n b)) (times (sum_at (λ c. c.north) es n b)) r
    where
      times : (s : ℤ) → pos (weight_at es n) *ℤ (pos d *ℤ s) ≡ pos (suc w * d) *ℤ s
      times s = ap (λ k. pos k *ℤ (pos d *ℤ s)) e ∙ ring 0 3 (λ w d s. w ⊗ (d ⊗ s) ≐ (w ⊗ d) ⊗ s) tt (pos (suc w)) (pos d) s

points_within : (es : List Entry) (n : ℕ) {bs : List Box} → All Ordered bs → Each (denominator_for es n bs) bs (points_for es n bs)
points_within es n none = Each.none
points_within es n (◌&◌ {x = b} {l = bs} o os) =
    Each.◌&◌ (choice_within es n b o (denominator_for es (suc n) bs) (weight_at es n) refl)
    (scale_each (at_least_one (weight_at es n)) (denominator_for es (suc n) bs) (points_within es (suc n) os))

points_chosen : (es : List Entry) (n : ℕ) {bs : List Box} → All Ordered bs → Chosen es (denominator_for es n bs) n bs (points_for es n bs)
points_chosen es n none = Chosen.none
points_chosen es n (◌&◌ {x = b} {l = bs} o os) =
    choice_chosen es n b o (denominator_for es (suc n) bs) (weight_at es n) refl
    (scale_chosen (at_least_one (weight_at es n)) (denominator_for es (suc n) bs) (points_chosen es (suc n) os))

pub mean_pick : {bs : List Box} → All Ordered bs → List Entry → Pick bs
mean_pick {bs} os es =
    record { denominator = denominator_for es 1 bs; positive = denominator_pos es 1 bs; points = points_for es 1 bs; in_boxes = points_within es 1 os }

pub mean_pick_chosen : {bs : List Box} (os : All Ordered bs) (es : List Entry) → Chosen es (mean_pick os es).denominator 1 bs (mean_pick os es).points
unfolding mean_pick
mean_pick_chosen os es = points_chosen es 1 os

-- entries whose weighted sum is zero give the second driver a pick
pub second_succeeds : {bs : List Box} (p : Point) (os : All Ordered bs) (es : List Entry) → SecondReason bs p es → SecondSucceeds p (mean_pick os es)
second_succeeds p os es r = chosen_balanced p es (mean_pick os es).denominator (mean_pick os es).points r (mean_pick_chosen os es)

-- ---- a corner of the list is named by an entry

-- the number and the corner name of a corner of the list, whose first box has the number n
pub record NamedCorner (n : ℕ) (bs : List Box) (q : Point) : Type 0 where
  pub box : ℕ
  pub corner : Corner
  pub from_n : n ≤ box
  pub below : box < n + length bs
  pub is : (w : ℕ) → corner_at n bs (record { number = box; corner = corner; weight = w }) ≡ q

named_in : (c : Corner) (n : ℕ) (bs : List Box) {q : Point} → q ∈ corners_of c bs → NamedCorner n bs q
named_in c n (b ∷ bs) (here e) = record { box = n; corner = c; from_n = omega arith; below = omega arith; is = λ w. rw (eq-eqb n n refl) (sym e) }
named_in c n (b ∷ bs) (there m) =
    let r = named_in c (suc n) bs m in
    record { box = r.box; corner = r.corner; from_n = omega (arith, r.from_n); below = omega (arith, r.below); is = λ w. rw (ne_eqb n r.box (λ g. omega (arith, r.from_n))) (r.is w) }
named_in c n [] {q = q} x' = elim x' [ ]

pub named_corner : (bs : List Box) {q : Point} → q ∈ all_corners bs → NamedCorner 1 bs q
named_corner bs m =
    ⊎_elim
    (λ k. ⊎_elim
    (λ l. ⊎_elim (named_in SouthWest 1 bs) (named_in SouthEast 1 bs) (in_append (corners_of SouthWest bs) (corners_of SouthEast bs) l))
    (named_in NorthEast 1 bs)
    (in_append (corners_of SouthWest bs ++ corners_of SouthEast bs) (corners_of NorthEast bs) k))
    (named_in NorthWest 1 bs)
    (in_append (corners_of SouthWest bs ++ corners_of SouthEast bs ++ corners_of NorthEast bs) (corners_of NorthWest bs) m)
