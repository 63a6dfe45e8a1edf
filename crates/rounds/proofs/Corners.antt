-- Corners decide. A pick with the plug not strictly inside leads to the same at one corner name for every box, with the same direction.
-- A direction that has every corner strictly behind it has every pick strictly behind it. Assumes nothing.
use Prim.Native.Nat.{ℕ, ◌<◌}
use mathlib.Core.Logic.{◌↔◌}
use mathlib.Core.List.{List, ◌++◌, map}
use native.Mathlib.Omega.{arith}
use Rattle.std.proofs.lemmas.Int.{ints}
use lib.Dec.{lit<}
use lib.IntN.{ℤ, pos, negsuc, ◌*ℤ◌, neg_ℤ}
use lib.Signed.{◌≤ℤ◌, ◌<ℤ◌}
use Rattle.integers.proofs.Expr.{◌⊕◌, ◌⊖◌, ◌⊗◌, ⊝◌, #◌, ◌≼◌, ◌≺◌, ◌⟹◌}
use Rattle.integers.proofs.Cert.{cert, hyp, ◌⊞◌, ◌⊠◌, ◌∵◌, ◌∵◌÷◌}
use Rattle.integers.proofs.Order.{pos_nn, ◌≤ᶻ◌}
use Rattle.plane.specs.declared.Point.{Point}
use Rattle.plane.specs.Members.{All, none, ◌&◌}
use Rattle.plane.specs.Vectors.{from, along, Supported, Separated}
use Rattle.plane.proofs.Lists.{all_map, all_unmap, all_left, all_right}
use Rattle.plane.proofs.Combos.{separated_not_balanced}
use Rattle.plane.proofs.Twins.{pt, fromᴱ, alongᴱ}
use Rattle.rounds.specs.Boxes.{Ordered, corner_of, corners_of, all_corners}
use Rattle.rounds.specs.declared.Box.{Box}
use Rattle.rounds.specs.Picks.{InBox, Each, Pick}
use Rattle.rounds.specs.Reasons.{FirstReason}
use Rattle.rounds.specs.Words.{FirstSucceeds, Means}
use Rattle.rounds.specs.declared.Word.TheVariants.{Inside, Outside}
use Rattle.rounds.specs.declared.Corner.{Corner}
use Rattle.rounds.specs.declared.Corner.TheVariants.{SouthWest, SouthEast, NorthEast, NorthWest}

-- four corners, case by case
pub by_corner : (P : Corner → Type 0) → P SouthWest → P SouthEast → P NorthEast → P NorthWest → (c : Corner) → P c
by_corner P sw se ne nw SouthWest = sw
by_corner P sw se ne nw SouthEast = se
by_corner P sw se ne nw NorthEast = ne
by_corner P sw se ne nw NorthWest = nw

-- the corner of a box that lies least far along (a, b), and the one that lies farthest
abbrev pub lowest : ℤ → ℤ → Corner
lowest (pos a) (pos b) = SouthWest
lowest (negsuc a) (pos b) = SouthEast
lowest (negsuc a) (negsuc b) = NorthEast
lowest (pos a) (negsuc b) = NorthWest

abbrev pub highest : ℤ → ℤ → Corner
highest a b = lowest (neg_ℤ a) (neg_ℤ b)

-- d times the lowest corner is no farther along than a point of the box over d
pub low : (d : ℕ) (a b : ℤ) (p : Point) (x : Box) (q : Point) → InBox d x q → pos d *ℤ along a b (from 1 p (corner_of (lowest a b) x)) ≤ᶻ along a b (from d p q)
low d (pos a) (pos b) p x q w = cert 2 5 (λ p q a b d s t.
    # 0 ≼ a ⟹ # 0 ≼ b ⟹ d ⊗ s ≼ q.0 ⟹ d ⊗ t ≼ q.1 ⟹ d ⊗ alongᴱ a b (fromᴱ p (s, t)) ≼ a ⊗ (q.0 ⊖ d ⊗ p.0) ⊕ b ⊗ (q.1 ⊖ d ⊗ p.1)
    ∵ hyp 0 ⊠ hyp 2 ⊞ hyp 1 ⊠ hyp 3) tt (pt p) (pt q) (pos a) (pos b) (pos d) x.west x.south (pos_nn a) (pos_nn b) w.from_west w.from_south
low d (negsuc a) (pos b) p x q w = cert 2 5 (λ p q a b d s t.
    a ≺ # 0 ⟹ # 0 ≼ b ⟹ q.0 ≼ d ⊗ s ⟹ d ⊗ t ≼ q.1 ⟹ d ⊗ alongᴱ a b (fromᴱ p (s, t)) ≼ a ⊗ (q.0 ⊖ d ⊗ p.0) ⊕ b ⊗ (q.1 ⊖ d ⊗ p.1)
    ∵ hyp 0 ⊠ hyp 2 ⊞ hyp 1 ⊠ hyp 3) tt (pt p) (pt q) (negsuc a) (pos b) (pos d) x.east x.south (omega (arith, ints)) (pos_nn b) w.to_east w.from_south
low d (negsuc a) (negsuc b) p x q w = cert 2 5 (λ p q a b d s t.
    a ≺ # 0 ⟹ b ≺ # 0 ⟹ q.0 ≼ d ⊗ s ⟹ q.1 ≼ d ⊗ t ⟹ d ⊗ alongᴱ a b (fromᴱ p (s, t)) ≼ a ⊗ (q.0 ⊖ d ⊗ p.0) ⊕ b ⊗ (q.1 ⊖ d ⊗ p.1)
    ∵ hyp 0 ⊠ hyp 2 ⊞ hyp 1 ⊠ hyp 3) tt (pt p) (pt q) (negsuc a) (negsuc b) (pos d) x.east x.north (omega (arith, ints)) (omega (arith, ints)) w.to_east w.to_north
low d (pos a) (negsuc b) p x q w = cert 2 5 (λ p q a b d s t.
    # 0 ≼ a ⟹ b ≺ # 0 ⟹ d ⊗ s ≼ q.0 ⟹ q.1 ≼ d ⊗ t ⟹ d ⊗ alongᴱ a b (fromᴱ p (s, t)) ≼ a ⊗ (q.0 ⊖ d ⊗ p.0) ⊕ b ⊗ (q.1 ⊖ d ⊗ p.1)
    ∵ hyp 0 ⊠ hyp 2 ⊞ hyp 1 ⊠ hyp 3) tt (pt p) (pt q) (pos a) (negsuc b) (pos d) x.west x.north (pos_nn a) (omega (arith, ints)) w.from_west w.to_north

-- ---- a pick with the plug not strictly inside

behind_corners : (d : ℕ) (a b : ℤ) (p : Point) {bs : List Box} {qs : List Point} → 0 < d → Each d bs qs
    → All (λ v. along a b v ≤ℤ pos 0) (map (from d p) qs) → All (λ v. along a b v ≤ℤ pos 0) (map (from 1 p) (corners_of (lowest a b) bs))
behind_corners d a b p hd Each.none h = none
behind_corners d a b p hd (Each.◌&◌ {b = x} {q = q} w ws) (h & hs) =
    cert 0 3 (λ d x y. # 0 ≺ d ⟹ d ⊗ x ≼ y ⟹ y ≼ # 0 ⟹ x ≼ # 0 ∵ hyp 1 ⊞ hyp 2 ÷ hyp 0) tt (pos d) _ _ (omega (arith, ints)) (low d a b p x q w) h
    & behind_corners d a b p hd ws hs

-- the direction of a pick's reason serves the corner name that is lowest along it
pub corner_reason : {bs : List Box} (p : Point) (k : Pick bs) (h : FirstSucceeds p k) → FirstReason bs p (lowest h.a h.b) h.a h.b
corner_reason p k h = record { nonzero = h.nonzero; behind = behind_corners k.denominator h.a h.b p k.positive k.in_boxes h.behind }

pub reason_supported : {bs : List Box} {p : Point} {c : Corner} {a b : ℤ} → FirstReason bs p c a b → Supported (map (from 1 p) (corners_of c bs))
reason_supported {a = a} {b = b} r = record { a = a; b = b; nonzero = r.nonzero; behind = r.behind }

-- ---- the pick of one corner name

pub corner_within : (c : Corner) (x : Box) → Ordered x → InBox 1 x (corner_of c x)
corner_within SouthWest x o = record { from_west = omega (arith, ints); to_east = omega (arith, ints); from_south = omega (arith, ints); to_north = omega (arith, ints) }
corner_within SouthEast x o = record { from_west = omega (arith, ints); to_east = omega (arith, ints); from_south = omega (arith, ints); to_north = omega (arith, ints) }
corner_within NorthEast x o = record { from_west = omega (arith, ints); to_east = omega (arith, ints); from_south = omega (arith, ints); to_north = omega (arith, ints) }
corner_within NorthWest x o = record { from_west = omega (arith, ints); to_east = omega (arith, ints); from_south = omega (arith, ints); to_north = omega (arith, ints) }

pub corners_within : (c : Corner) {bs : List Box} → All Ordered bs → Each 1 bs (corners_of c bs)
corners_within c none = Each.none
corners_within c (◌&◌ {x = x} o os) = Each.◌&◌ (corner_within c x o) (corners_within c os)

abbrev pub corner_pick : {bs : List Box} → All Ordered bs → Corner → Pick bs
corner_pick {bs} os c = record { denominator = 1; positive = lit< tt; points = corners_of c bs; in_boxes = corners_within c os }

-- inside, by the four corner lists. (The way back needs no order of the edges.)
pub inside_by_corners : {bs : List Box} (p : Point) → ((c : Corner) → Supported (map (from 1 p) (corners_of c bs)) → ⊥) → Means bs p Inside
inside_by_corners p f k h = f (lowest h.a h.b) (reason_supported (corner_reason p k h))

pub inside_iff : {bs : List Box} (p : Point) → All Ordered bs → Means bs p Inside ↔ ((c : Corner) → Supported (map (from 1 p) (corners_of c bs)) → ⊥)
inside_iff p os = (λ h c s. h (corner_pick os c) s, λ f. inside_by_corners p f)

-- ---- a direction with every corner strictly behind it

behind_picks : (d : ℕ) (a b : ℤ) (p : Point) {bs : List Box} {qs : List Point} → 0 < d → Each d bs qs
    → All (λ v. along a b v <ℤ pos 0) (map (from 1 p) (corners_of (highest a b) bs)) → All (λ v. along a b v <ℤ pos 0) (map (from d p) qs)
behind_picks d a b p hd Each.none h = none
behind_picks d a b p hd (Each.◌&◌ {b = x} {q = q} w ws) (h & hs) =
    cert 2 3 (λ v u d a b.
    # 0 ≺ d ⟹ d ⊗ alongᴱ (⊝ a) (⊝ b) v ≼ alongᴱ (⊝ a) (⊝ b) u ⟹ alongᴱ a b v ≺ # 0 ⟹ alongᴱ a b u ≺ # 0 ∵ hyp 1 ⊞ hyp 0 ⊠ hyp 2) tt
    (pt (from 1 p (corner_of (highest a b) x))) (pt (from d p q)) (pos d) a b (omega (arith, ints)) (low d (neg_ℤ a) (neg_ℤ b) p x q w) h
    & behind_picks d a b p hd ws hs

-- one corner name of the list of all corners
pub one_of_all : {P : Point → Type 0} (c : Corner) (bs : List Box) → All P (all_corners bs) → All P (corners_of c bs)
one_of_all {P} c bs h = go c
  where
    but_nw : All P (corners_of SouthWest bs ++ corners_of SouthEast bs ++ corners_of NorthEast bs)
    but_nw = all_left (corners_of SouthWest bs ++ corners_of SouthEast bs ++ corners_of NorthEast bs) (corners_of NorthWest bs) h

    south : All P (corners_of SouthWest bs ++ corners_of SouthEast bs)
    south = all_left (corners_of SouthWest bs ++ corners_of SouthEast bs) (corners_of NorthEast bs) but_nw

    go : (c : Corner) → All P (corners_of c bs)
    go SouthWest = all_left (corners_of SouthWest bs) (corners_of SouthEast bs) south
    go SouthEast = all_right (corners_of SouthWest bs) (corners_of SouthEast bs) south
    go NorthEast = all_right (corners_of SouthWest bs ++ corners_of SouthEast bs) (corners_of NorthEast bs) but_nw
    go NorthWest = all_right (corners_of SouthWest bs ++ corners_of SouthEast bs ++ corners_of NorthEast bs) (corners_of NorthWest bs) h

-- the farthest corners alone are enough
pub outside_by_farthest : {bs : List Box} (p : Point) (a b : ℤ) → All (λ v. along a b v <ℤ pos 0) (map (from 1 p) (corners_of (highest a b) bs)) → Means bs p Outside
outside_by_farthest p a b h k =
    separated_not_balanced (record { a = a; b = b; behind = behind_picks k.denominator a b p k.positive k.in_boxes h })

pub outside_by_corners : {bs : List Box} (p : Point) → Separated (map (from 1 p) (all_corners bs)) → Means bs p Outside
outside_by_corners {bs} p s =
    outside_by_farthest p s.a s.b
    (all_map (from 1 p) (one_of_all (highest s.a s.b) bs (all_unmap (from 1 p) (all_corners bs) s.behind)))
