-- Turns at keys. a < b as numbers is that the vector from a's point to b's points up in the order of points (`up` of turns), so the angular lemma of plane (Angular)
-- speaks of keys in order. Assumes nothing.
use mathlib.Core.Bool.{Bool, true, false, not}
use mathlib.Core.Path.{◌≡◌, sym, ◌∙◌, subst}
use mathlib.Core.Logic.{⊎_elim}
use Prim.Native.Nat.{ℕ, ◌≤◌, ◌<◌}
use native.Mathlib.Decide.{dec_lt}
use native.Mathlib.Omega.{arith}
use lib.Dec.{T}
use lib.IntN.{pos, ◌+ℤ◌, ◌*ℤ◌, ◌-ℤ◌}
use lib.Signed.{◌≤ℤ◌, ◌<ℤ◌, lt_z, lt_z_yes, lt_z_no}
use Rattle.integers.proofs.Expr.{◌⊕◌, ◌⊖◌, ◌⊗◌, ⊝◌, #◌, ◌≐◌, ◌≼◌, ◌≺◌, ◌⟹◌, bot, Pt, PtE}
use Rattle.integers.proofs.Ring.{ring}
use Rattle.integers.proofs.Cert.{cert, hyp, sq, eqn, ◌⊞◌, ◌⊠◌, ◌∵◌, ◌∵◌÷◌}
use Rattle.integers.proofs.Order.{<→≤, ≡→≤, lt_or_ge}
use Rattle.plane.specs.Points.{point, signed_area, dot_product as along-way}
use Rattle.plane.specs.declared.Point.{Point}
use Rattle.plane.proofs.Twins.{pt, signed_areaᴱ, det, detᴱ}
use Rattle.plane.proofs.Angular.{Up, ahead, above, right_trans, right_trans_l}
use Rattle.plane.proofs.PolygonFacts.{Between}
use Rattle.plane.proofs.Sides.{dot_productᴱ}
use Rattle.turns.specs.Keys.{point_of}
use Rattle.turns.proofs.Order.{up}
use Rattle.chains.specs.Chains.{turn}

-- ---- what the test of a turn says

pub right_if : (a b c : ℕ) (r : Bool) → r ≡ lt_z (signed_area (point_of a) (point_of b) (point_of c)) (pos 0) → r ≡ true → turn a b c <ℤ pos 0
unfolding turn
right_if a b c r e h = lt_z_yes (subst T (sym h ∙ e) tt)

pub not_right_if : (a b c : ℕ) (r : Bool) → r ≡ lt_z (signed_area (point_of a) (point_of b) (point_of c)) (pos 0) → r ≡ false → pos 0 ≤ℤ turn a b c
unfolding turn
not_right_if a b c r e h = lt_z_no (subst (λ t. T (not t)) (sym h ∙ e) tt)

pub left_if : (a b c : ℕ) (r : Bool) → r ≡ lt_z (pos 0) (signed_area (point_of a) (point_of b) (point_of c)) → r ≡ true → pos 0 <ℤ turn a b c
unfolding turn
left_if a b c r e h = lt_z_yes (subst T (sym h ∙ e) tt)

pub not_left_if : (a b c : ℕ) (r : Bool) → r ≡ lt_z (pos 0) (signed_area (point_of a) (point_of b) (point_of c)) → r ≡ false → turn a b c ≤ℤ pos 0
unfolding turn
not_left_if a b c r e h = lt_z_no (subst (λ t. T (not t)) (sym h ∙ e) tt)

-- ---- the vector from one key's point to another's

-- the vector from a to b
abbrev pub way : Point → Point → Point
way a b = point (b.east -ℤ a.east) (b.north -ℤ a.north)

abbrev pub wayᴱ : PtE → PtE → PtE
wayᴱ a b = (b.0 ⊖ a.0, b.1 ⊖ a.1)

-- a key's point as the solvers take it, and the vector from one key's point to another's
abbrev pub place : ℕ → Pt
place k = pt (point_of k)

abbrev pub step : ℕ → ℕ → Point
step a b = way (point_of a) (point_of b)

-- ---- turns at any keys

pub turn_first : (a b : ℕ) → turn a b a ≡ pos 0
unfolding turn
turn_first a b = ring 2 0 (λ a b. signed_areaᴱ a b a ≐ # 0) tt (place a) (place b)

pub turn_last : (a b : ℕ) → turn a b b ≡ pos 0
unfolding turn
turn_last a b = ring 2 0 (λ a b. signed_areaᴱ a b b ≐ # 0) tt (place a) (place b)

pub turn_same : (a b : ℕ) → turn a b a ≤ℤ pos 0
turn_same a b = ≡→≤ (turn_first a b)

pub turn_end : (a b : ℕ) → turn a b b ≤ℤ pos 0
turn_end a b = ≡→≤ (turn_last a b)

-- the last key is not right of the line to it
pub not_right_end : (a b : ℕ) → turn a b b <ℤ pos 0 → ⊥
unfolding turn
not_right_end a b = cert 2 0 (λ a b. signed_areaᴱ a b b ≺ # 0 ⟹ bot ∵ hyp 0) tt (place a) (place b)

pub cyclic-< : (a b c : ℕ) → turn a b c <ℤ pos 0 → turn b c a <ℤ pos 0
unfolding turn
cyclic-< a b c = cert 3 0 (λ a b c. signed_areaᴱ a b c ≺ # 0 ⟹ signed_areaᴱ b c a ≺ # 0 ∵ hyp 0) tt (place a) (place b) (place c)

pub turn_back : (a b c : ℕ) → turn b a c ≤ℤ pos 0 → pos 0 ≤ℤ turn a b c
unfolding turn
turn_back a b c = cert 3 0 (λ a b c. signed_areaᴱ b a c ≼ # 0 ⟹ # 0 ≼ signed_areaᴱ a b c ∵ hyp 0) tt (place a) (place b) (place c)

pub turn_over : (a b c : ℕ) → pos 0 ≤ℤ turn a b c → turn b a c ≤ℤ pos 0
unfolding turn
turn_over a b c = cert 3 0 (λ a b c. # 0 ≼ signed_areaᴱ a b c ⟹ signed_areaᴱ b a c ≼ # 0 ∵ hyp 0) tt (place a) (place b) (place c)

-- x is not on both sides of the line from f to l
pub not_both : (f l x : ℕ) → turn f x l <ℤ pos 0 → turn f l x <ℤ pos 0 → ⊥
unfolding turn
not_both f l x = cert 3 0 (λ f l x. signed_areaᴱ f x l ≺ # 0 ⟹ signed_areaᴱ f l x ≺ # 0 ⟹ bot ∵ hyp 0 ⊞ hyp 1) tt (place f) (place l) (place x)

-- ---- turns at keys in order

-- r is right of a's side to b, where it is right of b's side to c, and c is right of a's side to b
pub down : {a b c r : ℕ} → a < b → b < c → b < r → turn a b c ≤ℤ pos 0 → turn b c r ≤ℤ pos 0 → turn a b r ≤ℤ pos 0
unfolding turn
down {a} {b} {c} {r} h k l p q =
    cert 3 0 (λ a b r. detᴱ (wayᴱ a b) (wayᴱ b r) ≼ # 0 ⟹ signed_areaᴱ a b r ≼ # 0 ∵ hyp 0) tt (place a) (place b) (place r)
    (right_trans (step a b) (step b c) (step b r) (up h) (up k) (up l)
    (cert 3 0 (λ a b c. signed_areaᴱ a b c ≼ # 0 ⟹ detᴱ (wayᴱ a b) (wayᴱ b c) ≼ # 0 ∵ hyp 0) tt (place a) (place b) (place c) p)
    q)

-- q is right of t's side to r, where r is left of t's side to c and q is right of it
pub beyond : {t c r q : ℕ} → t < c → t < r → t < q → pos 0 ≤ℤ turn t c r → turn t c q ≤ℤ pos 0 → turn t r q ≤ℤ pos 0
unfolding turn
beyond {t} {c} {r} {q} h k l p g =
    right_trans (step t r) (step t c) (step t q) (up k) (up h) (up l)
    (cert 3 0 (λ t c r. # 0 ≼ signed_areaᴱ t c r ⟹ detᴱ (wayᴱ t r) (wayᴱ t c) ≼ # 0 ∵ hyp 0) tt (place t) (place c) (place r) p)
    g

-- q, which is before c, is right of c's side to r, where both are right of p's side to c
pub behind : {p c r q : ℕ} → p < c → c < r → q < c → turn p c q ≤ℤ pos 0 → turn p c r ≤ℤ pos 0 → turn c r q ≤ℤ pos 0
unfolding turn
behind {p} {c} {r} {q} h k l g f =
    cert 3 0 (λ c r q. detᴱ (wayᴱ q c) (wayᴱ c r) ≼ # 0 ⟹ signed_areaᴱ c r q ≼ # 0 ∵ hyp 0) tt (place c) (place r) (place q)
    (right_trans (step q c) (step p c) (step c r) (up l) (up h) (up k)
    (cert 3 0 (λ p c q. signed_areaᴱ p c q ≼ # 0 ⟹ detᴱ (wayᴱ q c) (wayᴱ p c) ≼ # 0 ∵ hyp 0) tt (place p) (place c) (place q) g)
    (cert 3 0 (λ p c r. signed_areaᴱ p c r ≼ # 0 ⟹ detᴱ (wayᴱ p c) (wayᴱ c r) ≼ # 0 ∵ hyp 0) tt (place p) (place c) (place r) f))

-- k, which is between f and l in order and right of the line from f to l or on it, is right of a's side to b or on it, where f and l are
pub cover : {f l k a b : ℕ} → f < k → k < l → a < b → turn f l k ≤ℤ pos 0 → turn a b f ≤ℤ pos 0 → turn a b l ≤ℤ pos 0 → turn a b k ≤ℤ pos 0
unfolding turn
cover {f} {l} {k} {a} {b} x y z t p q = ⊎_elim (λ h. absurd (beyond_both h)) (λ h. h) (lt_or_ge (pos 0) (signed_area (point_of a) (point_of b) (point_of k)))
  where
    beyond_both : pos 0 <ℤ signed_area (point_of a) (point_of b) (point_of k) → ⊥
    beyond_both h =
        cert 3 0 (λ f k l. detᴱ (wayᴱ f k) (wayᴱ k l) ≺ # 0 ⟹ signed_areaᴱ f l k ≼ # 0 ⟹ bot ∵ hyp 0 ⊞ hyp 1) tt (place f) (place k) (place l)
        (right_trans_l (step f k) (step a b) (step k l) (up x) (up z) (up y)
        (cert 4 0 (λ f k a b. # 0 ≺ signed_areaᴱ a b k ⟹ signed_areaᴱ a b f ≼ # 0 ⟹ detᴱ (wayᴱ f k) (wayᴱ a b) ≺ # 0 ∵ hyp 0 ⊞ hyp 1) tt (place f) (place k) (place a) (place b) h p)
        (<→≤ (cert 4 0 (λ k l a b. # 0 ≺ signed_areaᴱ a b k ⟹ signed_areaᴱ a b l ≼ # 0 ⟹ detᴱ (wayᴱ a b) (wayᴱ k l) ≺ # 0 ∵ hyp 0 ⊞ hyp 1) tt (place k) (place l) (place a) (place b) h q)))
        t

-- around z, before all
pub around : {z b c e : ℕ} → z < b → z < c → z < e → turn z b c <ℤ pos 0 → turn z c e <ℤ pos 0 → turn z b e <ℤ pos 0
unfolding turn
around {z} {b} {c} {e} h k l p q = right_trans_l (step z b) (step z c) (step z e) (up h) (up k) (up l) p (<→≤ q)

-- around z, after all
pub around_last : {z b c e : ℕ} → b < z → c < z → e < z → turn c b z <ℤ pos 0 → turn c z e <ℤ pos 0 → turn b z e <ℤ pos 0
unfolding turn
around_last {z} {b} {c} {e} h k l p q =
    cert 3 0 (λ z b e. detᴱ (wayᴱ e z) (wayᴱ b z) ≺ # 0 ⟹ signed_areaᴱ b z e ≺ # 0 ∵ hyp 0) tt (place z) (place b) (place e)
    (right_trans_l (step e z) (step c z) (step b z) (up l) (up k) (up h)
    (cert 3 0 (λ z c e. signed_areaᴱ c z e ≺ # 0 ⟹ detᴱ (wayᴱ e z) (wayᴱ c z) ≺ # 0 ∵ hyp 0) tt (place z) (place c) (place e) q)
    (<→≤ (cert 3 0 (λ z b c. signed_areaᴱ c b z ≺ # 0 ⟹ detᴱ (wayᴱ c z) (wayᴱ b z) ≺ # 0 ∵ hyp 0) tt (place z) (place b) (place c) p)))

-- from z, the way over b and c turns on
pub onward : {z b c e : ℕ} → z < c → b < c → c < e → turn z b c <ℤ pos 0 → turn b c e <ℤ pos 0 → turn z c e <ℤ pos 0
unfolding turn
onward {z} {b} {c} {e} h k l p q =
    cert 3 0 (λ z c e. detᴱ (wayᴱ z c) (wayᴱ c e) ≺ # 0 ⟹ signed_areaᴱ z c e ≺ # 0 ∵ hyp 0) tt (place z) (place c) (place e)
    (right_trans_l (step z c) (step b c) (step c e) (up h) (up k) (up l)
    (cert 3 0 (λ z b c. signed_areaᴱ z b c ≺ # 0 ⟹ detᴱ (wayᴱ z c) (wayᴱ b c) ≺ # 0 ∵ hyp 0) tt (place z) (place b) (place c) p)
    (<→≤ (cert 3 0 (λ b c e. signed_areaᴱ b c e ≺ # 0 ⟹ detᴱ (wayᴱ b c) (wayᴱ c e) ≺ # 0 ∵ hyp 0) tt (place b) (place c) (place e) q)))

-- ---- in line

-- vectors that point up and are in line go the same way
same_way : (u v : Point) → Up u → Up v → det u v ≡ pos 0 → pos 0 ≤ℤ (u.east *ℤ v.east +ℤ u.north *ℤ v.north)
same_way u v (ahead h) (ahead k) e =
    cert 2 0 (λ u v. # 0 ≺ u.0 ⟹ # 0 ≺ v.0 ⟹ detᴱ u v ≐ # 0 ⟹ # 0 ≼ u.0 ⊗ v.0 ⊕ u.1 ⊗ v.1
    ∵ sq (u.0 ⊗ v.0) ⊞ sq (u.1 ⊗ v.0) ⊞ eqn 2 (⊝ (u.1 ⊗ v.0)) ÷ hyp 0 ⊠ hyp 1) tt (pt u) (pt v) h k e
same_way u v (ahead h) (above d k) e =
    cert 2 0 (λ u v. # 0 ≺ u.0 ⟹ v.0 ≐ # 0 ⟹ # 0 ≺ v.1 ⟹ detᴱ u v ≐ # 0 ⟹ # 0 ≼ u.0 ⊗ v.0 ⊕ u.1 ⊗ v.1
    ∵ eqn 1 (⊝ (u.0 ⊗ u.0 ⊕ u.1 ⊗ u.1)) ⊞ eqn 3 (⊝ u.1) ÷ hyp 0) tt (pt u) (pt v) h d k e
same_way u v (above d h) (ahead k) e =
    cert 2 0 (λ u v. u.0 ≐ # 0 ⟹ # 0 ≺ u.1 ⟹ # 0 ≺ v.0 ⟹ detᴱ u v ≐ # 0 ⟹ # 0 ≼ u.0 ⊗ v.0 ⊕ u.1 ⊗ v.1
    ∵ eqn 0 (⊝ (v.0 ⊗ v.0 ⊕ v.1 ⊗ v.1)) ⊞ eqn 3 v.1 ÷ hyp 2) tt (pt u) (pt v) d h k e
same_way u v (above d h) (above c k) e =
    cert 2 0 (λ u v. u.0 ≐ # 0 ⟹ # 0 ≺ u.1 ⟹ v.0 ≐ # 0 ⟹ # 0 ≺ v.1 ⟹ # 0 ≼ u.0 ⊗ v.0 ⊕ u.1 ⊗ v.1
    ∵ hyp 1 ⊠ hyp 3 ⊞ eqn 0 (⊝ v.0)) tt (pt u) (pt v) d h c k

-- a key that is in line with two others, and between them in order, lies between them
pub between : {a b q : ℕ} → a < b → a ≤ q → q ≤ b → turn a b q ≡ pos 0 → Between (point_of a) (point_of b) (point_of q)
unfolding turn
between {a} {b} {q} h k l e =
    record { in_line = e; past_v = past (dec_lt a q); before_w = prior (dec_lt q b) }
  where
    past : Dec (a < q) → pos 0 ≤ℤ along-way (point_of a) (point_of b) (point_of q)
    past (yes o) = same_way (step a b) (step a q) (up h) (up o) e
    past (no o) = let z : q ≡ a = omega arith in rw z (≡→≤ (ring 2 0 (λ a b. # 0 ≐ dot_productᴱ a b a) tt (place a) (place b)))

    prior : Dec (q < b) → pos 0 ≤ℤ along-way (point_of b) (point_of a) (point_of q)
    prior (yes o) =
        cert 3 0 (λ a b q. # 0 ≼ (b.0 ⊖ a.0) ⊗ (b.0 ⊖ q.0) ⊕ (b.1 ⊖ a.1) ⊗ (b.1 ⊖ q.1) ⟹ # 0 ≼ dot_productᴱ b a q ∵ hyp 0) tt (place a) (place b) (place q)
        (same_way (step a b) (step q b) (up h) (up o)
        (cert 3 0 (λ a b q. signed_areaᴱ a b q ≐ # 0 ⟹ detᴱ (wayᴱ a b) (wayᴱ q b) ≐ # 0 ∵ eqn 0 (⊝ # 1)) tt (place a) (place b) (place q) e))
    prior (no o) = let z : q ≡ b = omega arith in rw z (≡→≤ (ring 2 0 (λ a b. # 0 ≐ dot_productᴱ b a b) tt (place a) (place b)))
