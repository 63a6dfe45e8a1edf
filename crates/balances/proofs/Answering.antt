-- What a cone and a view tell the second driver. Assumes nothing.
use Rattle.std.specs.Option.{option_or}
use Rattle.std.specs.Prelude.{Option, Some, None}
use Prim.Native.Nat.{ℕ, ◌+◌, ◌≤◌, ◌<◌}
use mathlib.Core.Path.{◌≡◌, refl, sym, ap, subst}
use mathlib.Core.List.{List, [], ◌∷◌, ◌++◌}
use native.Mathlib.Omega.{arith}
use lib.Dec.{leb→le, le→leb, ltb→lt}
use lib.IntN.{ℤ, pos, negsuc, nat_abs, ◌+ℤ◌, ◌*ℤ◌, ◌-ℤ◌}
use lib.Signed.{◌≤ℤ◌, ◌<ℤ◌}
use Rattle.integers.proofs.Expr.{◌⊕◌, ◌⊖◌, ◌⊗◌, ⊝◌, #◌, ◌≼◌, ◌≺◌, ◌≐◌, ◌⟹◌}
use Rattle.integers.proofs.Lin.{lin}
use Rattle.integers.proofs.Ring.{ring}
use Rattle.integers.proofs.Cert.{cert, hyp, eqn, ◌⊞◌, ◌∵◌}
use Rattle.integers.proofs.Order.{<→≤, ≤-antisym, not-≤}
use Rattle.plane.specs.Points.{signed_area, dot_product, outward_east, outward_north}
use Rattle.plane.specs.declared.Point.{Point}
use Rattle.plane.specs.Members.{All, none, ◌&◌}
use Rattle.plane.specs.Vectors.{from, along}
use Rattle.plane.proofs.Lists.{all_at, all_both, all_map, all_unmap, all_append, all_right}
use Rattle.plane.proofs.Twins.{signed_areaᴱ, pt, fromᴱ, alongᴱ}
use Rattle.plane.proofs.Sides.{dot_productᴱ}
use Rattle.plane.proofs.PolygonFacts.{apart_length}
use Rattle.turns.specs.Keys.{point_of}
use Rattle.turns.proofs.Coordinates.{key_in_span}
use Rattle.turns.proofs.Bounds.{area_upto, dot_product_upto}
use Rattle.rounds.specs.Boxes.{BoxInSpan, corners_of}
use Rattle.rounds.specs.Reasons.{corner_at, EntriesHold}
use Rattle.rounds.specs.declared.Box.{Box}
use Rattle.rounds.specs.declared.Corner.{Corner}
use Rattle.rounds.specs.declared.Corner.TheVariants.{SouthWest, SouthEast, NorthEast, NorthWest}
use Rattle.cones.specs.Cones.{corner_point, entry_of, Named, AllOnLine, AllInHalf, IsAround, ConeSays, Known}
use Rattle.passes.specs.Passes.{IsPlug, MetSays, corners_by}
use Rattle.views.specs.Views.{ViewSays, CornerViewSays}
use Rattle.views.specs.Looking.{looked_over}
use Rattle.views.specs.declared.View.{View}
use Rattle.views.proofs.Viewing.{looks_over}
use Rattle.passes.specs.declared.CornerSet.TheVariants.{Four}
use Rattle.balances.specs.Balances.{entries, BetweenCorners, InTriangle, BalanceAt, BalanceSays, BalanceAmong, BalanceByCone, BalanceBy}
use Rattle.balances.specs.Balancing.{between_two, among_three, balance_of_cone, balance_by_met, balance_of_view, balance_of}
use Rattle.cones.specs.declared.CornerKey.{CornerKey}
use Rattle.cones.specs.declared.Cone.{Cone}
use Rattle.cones.specs.declared.Cone.TheVariants.{Nothing, Ray, Line, Wedge, Half, Around}
use Rattle.balances.specs.declared.Entries.{Entries}
use Rattle.cones.proofs.Turns.{apart_opposite, back_ahead, ray_strict, wedge_strict}
use Rattle.cones.proofs.FirstRay.{ray_first, wedge_first, square_supported, east_supported}

-- ---- the second driver, where no three balance

module _ (p : Point) where
  nothing_separates : BalanceByCone p Nothing None
  nothing_separates =
      record { says = λ bs qs h n. record { a = pos 0; b = pos 0; behind = all_map (from 1 p) (all_both (λ q e ne. absurd (ne e)) h (n (east_supported p h))) } }

  -- every point is strictly ahead on the ray, so strictly behind the other way
  ray_separates : (a : CornerKey) → BalanceByCone p (Ray a) None
  ray_separates a =
      record {
        says = λ bs qs r n. record {
          a = p.east -ℤ (corner_point a).east;
          b = p.north -ℤ (corner_point a).north;
          behind = all_map (from 1 p) (all_both (λ q l m. cert 3 0 (λ p a q.
              # 0 ≺ dot_productᴱ p a q ⟹ alongᴱ (p.0 ⊖ a.0) (p.1 ⊖ a.1) (fromᴱ p q) ≺ # 0 ∵ hyp 0) tt (pt p) (pt (corner_point a)) (pt q) (strict q l m r.apart))
              (all_both (λ q x y. (x, y)) r.in_line r.onward) (n (square_supported p (corner_point a) (ray_first p r))));
        };
      }
    where
      strict : (q : Point) → (signed_area p (corner_point a) q ≡ pos 0) × (pos 0 ≤ℤ dot_product p (corner_point a) q) → (q ≡ p → ⊥)
          → pos 0 <ℤ dot_product p (corner_point a) (corner_point a) → pos 0 <ℤ dot_product p (corner_point a) q
      strict q l ne h = not-≤ (λ z. ray_strict p (corner_point a) q l.0 (≤-antisym z l.1) h (apart_length p q (λ e. ne (sym e))))

  -- every point is strictly in front of the side from a to b, turned to the plug
  wedge_separates : (a b : CornerKey) → BalanceByCone p (Wedge a b) None
  wedge_separates a b =
      record {
        says = λ bs qs r n. record {
          a = outward_east (corner_point a) (corner_point b);
          b = outward_north (corner_point a) (corner_point b);
          behind = all_map (from 1 p) (all_both (λ q l m. strict q l r.wide (apart_length p q (λ e. m (sym e))))
              (all_both (λ q x y. (x, y)) r.from_a r.to_b) (n (square_supported p (corner_point a) (wedge_first p r))));
        };
      }
    where
      strict : (q : Point) → (pos 0 ≤ℤ signed_area p (corner_point a) q) × (pos 0 ≤ℤ signed_area p q (corner_point b)) → pos 0 <ℤ signed_area p (corner_point a) (corner_point b) → pos 0 <ℤ dot_product p q q
          → along (outward_east (corner_point a) (corner_point b)) (outward_north (corner_point a) (corner_point b)) (from 1 p q) <ℤ pos 0
      strict q h w l =
          not-≤ (λ z.
          let nx = cert 4 0 (λ p a b q. # 0 ≼ alongᴱ (⊝ (b.1 ⊖ a.1)) (b.0 ⊖ a.0) (fromᴱ p q) ⟹ # 0 ≼ signed_areaᴱ p q b ⟹ signed_areaᴱ p a q ≼ # 0 ∵ hyp 0 ⊞ hyp 1) tt
          (pt p) (pt (corner_point a)) (pt (corner_point b)) (pt q) z h.1 in
          let ny = cert 4 0 (λ p a b q. # 0 ≼ alongᴱ (⊝ (b.1 ⊖ a.1)) (b.0 ⊖ a.0) (fromᴱ p q) ⟹ # 0 ≼ signed_areaᴱ p a q ⟹ signed_areaᴱ p q b ≼ # 0 ∵ hyp 0 ⊞ hyp 1) tt
          (pt p) (pt (corner_point a)) (pt (corner_point b)) (pt q) z h.0 in
          wedge_strict p (corner_point a) (corner_point b) q w (≤-antisym nx h.0) (≤-antisym ny h.1) l)

  -- ---- the second driver, where two or three of the points balance

  line_balances : (a b : CornerKey) {r : Option Entries} → BalanceAmong p (a ∷ b ∷ []) r → BalanceByCone p (Line a b) r
  line_balances a b h = record { says = λ bs qs l n. h.says bs qs (l.seen_a.named & l.seen_b.named & none) }

  half_balances : (a b : CornerKey) {r : Option Entries} → BalanceAmong p (a ∷ b ∷ []) r → BalanceByCone p (Half a b) r
  half_balances a b h = record { says = λ bs qs l n. h.says bs qs (l.seen_a.named & l.seen_b.named & none) }

  around_balances : (a b c : CornerKey) {r : Option Entries} → BalanceAmong p (a ∷ b ∷ c ∷ []) r → BalanceByCone p (Around a b c) r
  around_balances a b c h = record { says = λ bs qs l n. h.says bs qs (l.seen_a.named & l.seen_b.named & l.seen_c.named & none) }

  pub line_between : {bs : List Box} {qs : List Point} (a b : CornerKey) → AllOnLine bs qs p a b → BetweenCorners p a b
  line_between a b l = record { straight = all_at l.in_line l.seen_b.listed; opposite = l.opposite }

  pub half_between : {bs : List Box} {qs : List Point} (a b : CornerKey) → AllInHalf bs qs p a b → BetweenCorners p a b
  half_between a b l = record { straight = l.straight; opposite = l.opposite }

  pub around_triangle : {bs : List Box} {qs : List Point} (a b c : CornerKey) → IsAround bs qs p a b c → InTriangle p a b c
  around_triangle a b c l =
      record { of_a_b = l.of_a_b; of_b_c = l.of_b_c; of_c_a = l.of_c_a }

-- ---- three entries

-- v is named, and its weight n is z, which is not too large
record Weighs (bs : List Box) (v : CornerKey) (z : ℤ) (n : ℕ) : Type 0 where
  named : Named bs v
  high : z ≤ℤ pos 2048000000
  is : pos n ≡ z

module _ {bs : List Box} (p : Point) {u v w : CornerKey} {α β γ : ℤ} {i j k : ℕ} (hu : Weighs bs u α i) (hv : Weighs bs v β j) (hw : Weighs bs w γ k) where
  some : pos 0 <ℤ (α +ℤ β +ℤ γ) → 0 < i + (j + (k + 0))
  some h =
      let l : pos 0 <ℤ pos (i + j + k)
      = lin 0 6 (λ i j k α β γ. i ≐ α ⟹ j ≐ β ⟹ k ≐ γ ⟹ # 0 ≺ α ⊕ β ⊕ γ ⟹ # 0 ≺ i ⊕ j ⊕ k) (omega arith)
      (pos i) (pos j) (pos k) α β γ hu.is hv.is hw.is h in
      omega (arith, ltb→lt 0 (i + j + k) l.lt)

  -- the weight of a corner times a coordinate of the vector to the corner that its entry names
  abbrev part : (Point → ℤ) → CornerKey → ℕ → ℤ
  part f v n = pos n *ℤ f (from 1 p (corner_at 1 bs (entry_of v n)))

  -- equals for equals in a sum of three products
  sum : (f : Point → ℤ) → α *ℤ f (from 1 p (corner_point u)) +ℤ β *ℤ f (from 1 p (corner_point v)) +ℤ γ *ℤ f (from 1 p (corner_point w)) ≡ pos 0
      → part f u i +ℤ (part f v j +ℤ (part f w k +ℤ pos 0)) ≡ pos 0
  sum f e =
      cert 0 12 (λ i j k α β γ x y z x' y' z'.
      i ≐ α ⟹ j ≐ β ⟹ k ≐ γ ⟹ x' ≐ x ⟹ y' ≐ y ⟹ z' ≐ z ⟹ α ⊗ x ⊕ β ⊗ y ⊕ γ ⊗ z ≐ # 0 ⟹ i ⊗ x' ⊕ (j ⊗ y' ⊕ (k ⊗ z' ⊕ # 0)) ≐ # 0
      ∵ eqn 0 x' ⊞ eqn 3 α ⊞ eqn 1 y' ⊞ eqn 4 β ⊞ eqn 2 z' ⊞ eqn 5 γ ⊞ eqn 6 (# 1)) tt
      (pos i) (pos j) (pos k) α β γ (f (from 1 p (corner_point u))) (f (from 1 p (corner_point v))) (f (from 1 p (corner_point w))) _ _ _ hu.is hv.is hw.is
      (ap (λ q. f (from 1 p q)) (hu.named.is i)) (ap (λ q. f (from 1 p q)) (hv.named.is j)) (ap (λ q. f (from 1 p q)) (hw.named.is k)) e

  entries_hold : pos 0 <ℤ (α +ℤ β +ℤ γ)
      → α *ℤ (from 1 p (corner_point u)).east +ℤ β *ℤ (from 1 p (corner_point v)).east +ℤ γ *ℤ (from 1 p (corner_point w)).east ≡ pos 0
      → α *ℤ (from 1 p (corner_point u)).north +ℤ β *ℤ (from 1 p (corner_point v)).north +ℤ γ *ℤ (from 1 p (corner_point w)).north ≡ pos 0
      → EntriesHold bs p (entry_of u i ∷ entry_of v j ∷ entry_of w k ∷ [])
  entries_hold h ex ey =
      record {
        weights = upto hu & upto hv & upto hw & none;
        reason = record {
          named = (hu.named.least, hu.named.most) & (hv.named.least, hv.named.most) & (hw.named.least, hw.named.most) & none;
          some_weight = some h;
          east_sum = sum (λ q. q.east) ex;
          north_sum = sum (λ q. q.north) ey;
        };
      }
    where
      upto : {v : CornerKey} {z : ℤ} {n : ℕ} → Weighs bs v z n → n ≤ 2048000000
      upto {n = n} h = leb→le n 2048000000 (subst (λ x. x ≤ℤ pos 2048000000) (sym h.is) h.high).le

-- one corner, which is the plug
plug_holds : {bs : List Box} (p : Point) (v : CornerKey) → IsPlug bs p v → EntriesHold bs p (entry_of v 1 ∷ entry_of v 0 ∷ entry_of v 0 ∷ [])
plug_holds {bs} p v h = entries_hold p (weighs 1 (omega arith)) (weighs 0 (omega arith)) (weighs 0 (omega arith)) (record { lt = tt }) (zero_sum (λ q. q.east)) (zero_sum (λ q. q.north))
  where
    weighs : (n : ℕ) → n ≤ 1 → Weighs bs v (pos n) n
    weighs n l = record { named = h.named; high = record { le = le→leb n 2048000000 (omega arith) }; is = refl }

    zero_sum : (f : Point → ℤ)
        → pos 1 *ℤ (f (corner_point v) -ℤ pos 1 *ℤ f p) +ℤ pos 0 *ℤ (f (corner_point v) -ℤ pos 1 *ℤ f p) +ℤ pos 0 *ℤ (f (corner_point v) -ℤ pos 1 *ℤ f p) ≡ pos 0
    zero_sum f = lin 0 2 (λ v p. v ≐ p ⟹ # 1 ⊗ (v ⊖ # 1 ⊗ p) ⊕ # 0 ⊗ (v ⊖ # 1 ⊗ p) ⊕ # 0 ⊗ (v ⊖ # 1 ⊗ p) ≐ # 0) (omega arith) (f (corner_point v)) (f p) (ap f h.is)

module _ (a b : CornerKey) (k : ℕ) (h : BetweenCorners (point_of k) a b) where
  -- how far the plug is ahead of one, on the way to the other
  pub past_b : pos 0 ≤ℤ dot_product (corner_point b) (corner_point a) (point_of k)
  past_b =
      cert 3 0 (λ p a b. # 0 ≺ dot_productᴱ p b b ⟹ dot_productᴱ p a b ≺ # 0 ⟹ # 0 ≼ dot_productᴱ b a p ∵ hyp 0 ⊞ hyp 1) tt (pt (point_of k)) (pt (corner_point a)) (pt (corner_point b))
      (apart_opposite (point_of k) (corner_point b) (corner_point a) (back_ahead (point_of k) (corner_point a) (corner_point b) h.opposite)) h.opposite

  pub past_a : pos 0 ≤ℤ dot_product (corner_point a) (corner_point b) (point_of k)
  past_a =
      cert 3 0 (λ p a b. # 0 ≺ dot_productᴱ p a a ⟹ dot_productᴱ p a b ≺ # 0 ⟹ # 0 ≼ dot_productᴱ a b p ∵ hyp 0 ⊞ hyp 1) tt (pt (point_of k)) (pt (corner_point a)) (pt (corner_point b))
      (apart_opposite (point_of k) (corner_point a) (corner_point b) h.opposite) h.opposite

  -- each is weighed by how far the plug lies ahead of the other: no more than they are apart
  between_among : (m n : ℕ) → pos m ≡ dot_product (corner_point b) (corner_point a) (point_of k) → pos n ≡ dot_product (corner_point a) (corner_point b) (point_of k)
      → BalanceAmong (point_of k) (a ∷ b ∷ []) (Some (entries (entry_of a m) (entry_of b n) (entry_of a 0)))
  between_among m n hm hn = record { says = λ bs qs l. go l }
    where
      straight : signed_area (corner_point a) (corner_point b) (point_of k) ≡ pos 0
      straight = cert 3 0 (λ p a b. signed_areaᴱ p a b ≐ # 0 ⟹ signed_areaᴱ a b p ≐ # 0 ∵ eqn 0 (# 1)) tt (pt (point_of k)) (pt (corner_point a)) (pt (corner_point b)) h.straight

      go : {bs : List Box} → All (Named bs) (a ∷ b ∷ []) → EntriesHold bs (point_of k) (entry_of a m ∷ entry_of b n ∷ entry_of a 0 ∷ [])
      go (na & nb & none) =
          entries_hold (point_of k)
          (record {
            named = na;
            high = cert 3 0 (λ p a b. # 0 ≼ dot_productᴱ a b p ⟹ dot_productᴱ b a a ≼ # 2048000000 ⟹ dot_productᴱ b a p ≼ # 2048000000 ∵ hyp 0 ⊞ hyp 1) tt
                (pt (point_of k)) (pt (corner_point a)) (pt (corner_point b)) past_a (dot_product_upto (key_in_span nb.key) (key_in_span na.key) (key_in_span na.key)).high;
            is = hm;
          })
          (record {
            named = nb;
            high = cert 3 0 (λ p a b. # 0 ≼ dot_productᴱ b a p ⟹ dot_productᴱ a b b ≼ # 2048000000 ⟹ dot_productᴱ a b p ≼ # 2048000000 ∵ hyp 0 ⊞ hyp 1) tt
                (pt (point_of k)) (pt (corner_point a)) (pt (corner_point b)) past_b (dot_product_upto (key_in_span na.key) (key_in_span nb.key) (key_in_span nb.key)).high;
            is = hn;
          })
          (record { named = na; high = record { le = tt }; is = refl })
          (cert 3 0 (λ p a b. # 0 ≺ dot_productᴱ p a a ⟹ # 0 ≺ dot_productᴱ p b b ⟹ dot_productᴱ p a b ≺ # 0 ⟹ # 0 ≺ dot_productᴱ b a p ⊕ dot_productᴱ a b p ⊕ # 0 ∵ hyp 0 ⊞ hyp 1 ⊞ hyp 2 ⊞ hyp 2) tt
          (pt (point_of k)) (pt (corner_point a)) (pt (corner_point b)) (apart_opposite (point_of k) (corner_point a) (corner_point b) h.opposite)
          (apart_opposite (point_of k) (corner_point b) (corner_point a) (back_ahead (point_of k) (corner_point a) (corner_point b) h.opposite)) h.opposite)
          (cert 3 0 (λ v w p. signed_areaᴱ v w p ≐ # 0 ⟹ dot_productᴱ w v p ⊗ (fromᴱ p v).0 ⊕ dot_productᴱ v w p ⊗ (fromᴱ p w).0 ⊕ # 0 ⊗ (fromᴱ p v).0 ≐ # 0 ∵ eqn 0 (w.1 ⊖ v.1)) tt
          (pt (corner_point a)) (pt (corner_point b)) (pt (point_of k)) straight)
          (cert 3 0 (λ v w p. signed_areaᴱ v w p ≐ # 0 ⟹ dot_productᴱ w v p ⊗ (fromᴱ p v).1 ⊕ dot_productᴱ v w p ⊗ (fromᴱ p w).1 ⊕ # 0 ⊗ (fromᴱ p v).1 ≐ # 0 ∵ eqn 0 (⊝ (w.0 ⊖ v.0))) tt
          (pt (corner_point a)) (pt (corner_point b)) (pt (point_of k)) straight)

-- each is weighed by the area of the other two and the plug: no more than that of all three
triangle_among : (a b c : CornerKey) (k : ℕ) → InTriangle (point_of k) a b c → (l m n : ℕ)
    → pos l ≡ signed_area (point_of k) (corner_point b) (corner_point c) → pos m ≡ signed_area (point_of k) (corner_point c) (corner_point a) → pos n ≡ signed_area (point_of k) (corner_point a) (corner_point b)
    → BalanceAmong (point_of k) (a ∷ b ∷ c ∷ []) (Some (entries (entry_of a l) (entry_of b m) (entry_of c n)))
triangle_among a b c k h l m n hl hm hn = record { says = λ bs qs s. go s }
  where
    go : {bs : List Box} → All (Named bs) (a ∷ b ∷ c ∷ []) → EntriesHold bs (point_of k) (entry_of a l ∷ entry_of b m ∷ entry_of c n ∷ [])
    go (na & nb & nc & none) =
        let all = (area_upto (key_in_span na.key) (key_in_span nb.key) (key_in_span nc.key)).high in
        entries_hold (point_of k)
        (record {
          named = na;
          high = cert 4 0 (λ p a b c. # 0 ≼ signed_areaᴱ p a b ⟹ # 0 ≺ signed_areaᴱ p c a ⟹ signed_areaᴱ a b c ≼ # 2048000000
              ⟹ signed_areaᴱ p b c ≼ # 2048000000 ∵ hyp 0 ⊞ hyp 1 ⊞ hyp 2) tt
              (pt (point_of k)) (pt (corner_point a)) (pt (corner_point b)) (pt (corner_point c)) h.of_a_b h.of_c_a all;
          is = hl;
        })
        (record {
          named = nb;
          high = cert 4 0 (λ p a b c. # 0 ≼ signed_areaᴱ p a b ⟹ # 0 ≺ signed_areaᴱ p b c ⟹ signed_areaᴱ a b c ≼ # 2048000000
              ⟹ signed_areaᴱ p c a ≼ # 2048000000 ∵ hyp 0 ⊞ hyp 1 ⊞ hyp 2) tt
              (pt (point_of k)) (pt (corner_point a)) (pt (corner_point b)) (pt (corner_point c)) h.of_a_b h.of_b_c all;
          is = hm;
        })
        (record {
          named = nc;
          high = cert 4 0 (λ p a b c. # 0 ≺ signed_areaᴱ p b c ⟹ # 0 ≺ signed_areaᴱ p c a ⟹ signed_areaᴱ a b c ≼ # 2048000000
              ⟹ signed_areaᴱ p a b ≼ # 2048000000 ∵ hyp 0 ⊞ hyp 1 ⊞ hyp 2) tt
              (pt (point_of k)) (pt (corner_point a)) (pt (corner_point b)) (pt (corner_point c)) h.of_b_c h.of_c_a all;
          is = hn;
        })
        (cert 4 0 (λ p a b c. # 0 ≼ signed_areaᴱ p a b ⟹ # 0 ≺ signed_areaᴱ p b c ⟹ # 0 ≺ signed_areaᴱ p c a
        ⟹ # 0 ≺ signed_areaᴱ p b c ⊕ signed_areaᴱ p c a ⊕ signed_areaᴱ p a b ∵ hyp 0 ⊞ hyp 1 ⊞ hyp 2) tt
        (pt (point_of k)) (pt (corner_point a)) (pt (corner_point b)) (pt (corner_point c)) h.of_a_b h.of_b_c h.of_c_a)
        (ring 4 0 (λ p a b c. signed_areaᴱ p b c ⊗ (fromᴱ p a).0 ⊕ signed_areaᴱ p c a ⊗ (fromᴱ p b).0 ⊕ signed_areaᴱ p a b ⊗ (fromᴱ p c).0 ≐ # 0) tt
        (pt (point_of k)) (pt (corner_point a)) (pt (corner_point b)) (pt (corner_point c)))
        (ring 4 0 (λ p a b c. signed_areaᴱ p b c ⊗ (fromᴱ p a).1 ⊕ signed_areaᴱ p c a ⊗ (fromᴱ p b).1 ⊕ signed_areaᴱ p a b ⊗ (fromᴱ p c).1 ≐ # 0) tt
        (pt (point_of k)) (pt (corner_point a)) (pt (corner_point b)) (pt (corner_point c)))

-- ---- the corners of every box, box by box

corner_of_every : {P : Point → Type 0} (c : Corner) (bs : List Box) → All P (corners_by Four bs) → All P (corners_of c bs)
corner_of_every c [] none = none
corner_of_every SouthWest (b ∷ bs) (sw & se & ne & nw & more) = sw & corner_of_every SouthWest bs more
corner_of_every SouthEast (b ∷ bs) (sw & se & ne & nw & more) = se & corner_of_every SouthEast bs more
corner_of_every NorthEast (b ∷ bs) (sw & se & ne & nw & more) = ne & corner_of_every NorthEast bs more
corner_of_every NorthWest (b ∷ bs) (sw & se & ne & nw & more) = nw & corner_of_every NorthWest bs more

-- what they tell the second driver, behind other points, all corners tell
balance_all : (bs : List Box) (qs : List Point) (p : Point) (r : Option Entries) → BalanceAt bs (qs ++ corners_by Four bs) p r → BalanceSays bs p r
balance_all bs qs p (Some e) h = h
balance_all bs qs p None h = record { a = h.a; b = h.b; behind = all_map (from 1 p) (all_append (all_append (all_append (corner SouthWest) (corner SouthEast)) (corner NorthEast)) (corner NorthWest)) }
  where
    four : All (λ q. along h.a h.b (from 1 p q) <ℤ pos 0) (corners_by Four bs)
    four = all_right qs (corners_by Four bs) (all_unmap (from 1 p) (qs ++ corners_by Four bs) h.behind)

    corner : (c : Corner) → All (λ q. along h.a h.b (from 1 p q) <ℤ pos 0) (corners_of c bs)
    corner c = corner_of_every c bs four

-- ---- what is found

-- a number that is not negative
positive : (z : ℤ) → pos 0 ≤ℤ z → pos (nat_abs z) ≡ z
positive (pos n) h = refl
positive (negsuc n) h = absurd h.le

module _ (k : ℕ) where
  abbrev p : Point
  p = point_of k

  two_found : (a b : CornerKey) → BetweenCorners p a b → BalanceAmong p (a ∷ b ∷ []) (between_two k a b)
  two_found a b h = between_among a b k h _ _ (positive _ (past_b a b k h)) (positive _ (past_a a b k h))

  three_found : (a b c : CornerKey) → InTriangle p a b c → BalanceAmong p (a ∷ b ∷ c ∷ []) (among_three k a b c)
  three_found a b c h = triangle_among a b c k h _ _ _ (positive _ (<→≤ h.of_b_c)) (positive _ (<→≤ h.of_c_a)) (positive _ h.of_a_b)

  -- by the cone
  cone_found : (cone : Cone) → Known p cone → BalanceByCone p cone (balance_of_cone k cone)
  cone_found Nothing h = nothing_separates p
  cone_found (Ray a) h = ray_separates p a
  cone_found (Line a b) h = line_balances p a b (two_found a b (line_between p a b h.says))
  cone_found (Wedge a b) h = wedge_separates p a b
  cone_found (Half a b) h = half_balances p a b (two_found a b (half_between p a b h.says))
  cone_found (Around a b c) h = around_balances p a b c (three_found a b c (around_triangle p a b c h.says))

  -- by the view
  met_found : (bs : List Box) (qs : List Point) (cone : Cone) (met : Option CornerKey) → ConeSays bs qs p cone → MetSays bs qs p met → BalanceAt bs qs p (balance_by_met k met cone)
  met_found bs qs cone None c m = (cone_found cone (record { boxes = bs; points = qs; says = c })).says bs qs c m
  met_found bs qs cone (Some v) c m = plug_holds p v m

  view_found : (bs : List Box) (qs : List Point) (view : View) → ViewSays bs qs p view → BalanceAt bs qs p (balance_of_view k view)
  view_found bs qs view o = met_found bs qs view.cone view.met o.of_cone o.of_met

  -- by some corners, else by all
  first_found : (bs : List Box) (qs : List Point) (a b : Option Entries) → BalanceAt bs qs p a → BalanceSays bs p b → BalanceSays bs p (option_or a b)
  first_found bs qs None b h g = g
  first_found bs qs (Some e) b h g = h

  pub balance_says : (bs : List Box) → All BoxInSpan bs → (view : View) → CornerViewSays bs SouthWest p view → BalanceSays bs p (balance_of k bs view)
  balance_says bs h view o =
      let sw = corners_of SouthWest bs in
      let all = looked_over k Four 1 view bs in
      first_found bs sw (balance_of_view k view) (balance_of_view k all) (view_found bs sw view o)
      (balance_all bs sw p (balance_of_view k all) (view_found bs (sw ++ corners_by Four bs) all ((looks_over k bs h Four view).says sw o)))

  -- so does what was found
  pub two_says : (a b : CornerKey) → BetweenCorners p a b → {r : Option Entries} → r ≡ between_two k a b → BalanceAmong p (a ∷ b ∷ []) r
  two_says a b h e = subst (BalanceAmong p (a ∷ b ∷ [])) (sym e) (two_found a b h)

  pub three_says : (a b c : CornerKey) → InTriangle p a b c → {r : Option Entries} → r ≡ among_three k a b c → BalanceAmong p (a ∷ b ∷ c ∷ []) r
  three_says a b c h e = subst (BalanceAmong p (a ∷ b ∷ c ∷ [])) (sym e) (three_found a b c h)

  pub cone_says : (cone : Cone) → Known p cone → {r : Option Entries} → r ≡ balance_of_cone k cone → BalanceByCone p cone r
  cone_says cone h e = subst (BalanceByCone p cone) (sym e) (cone_found cone h)

  pub by_view : (view : View) {r : Option Entries} → r ≡ balance_of_view k view → BalanceBy p view r
  by_view view e = record { says = λ bs qs o. subst (λ r. BalanceAt bs qs p r) (sym e) (view_found bs qs view o) }

  pub by_all : (bs : List Box) → All BoxInSpan bs → (view : View) → CornerViewSays bs SouthWest p view → {r : Option Entries} → r ≡ balance_of k bs view → BalanceSays bs p r
  by_all bs h view o e = subst (λ r. BalanceSays bs p r) (sym e) (balance_says bs h view o)
