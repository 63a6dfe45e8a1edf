-- One vertex, or two: the plug is on the segment between them, or off. Assumes nothing.
use Prim.Native.Nat.{ℕ}
use mathlib.Core.Path.{◌≡◌, sym, ap, ◌∙◌, subst}
use mathlib.Core.Logic.{◌⊎◌, inl, inr}
use mathlib.Core.List.{List, map}
use native.Mathlib.Omega.{arith}
use lib.IntN.{ℤ, pos, ◌-ℤ◌, ◌*ℤ◌}
use lib.Signed.{◌≤ℤ◌, ◌<ℤ◌}
use Rattle.integers.proofs.Expr.{◌⊕◌, ◌⊖◌, ◌⊗◌, #◌, ◌≼◌, ◌≺◌, ◌≐◌, ◌⟹◌, bot}
use Rattle.integers.proofs.Lin.{lin}
use Rattle.integers.proofs.Ring.{ring}
use Rattle.integers.proofs.Cert.{cert, hyp, eqn, sq, ◌⊞◌, ◌⊠◌, ◌∵◌}
use Rattle.integers.proofs.Order.{lt_or_ge, ≡→≤, compareℤ, Cmp, is_less, is_same, is_more}
use Rattle.plane.specs.Points.{signed_area, dot_product}
use Rattle.plane.specs.declared.Point.{Point}
use Rattle.plane.specs.Members.{All, none, ◌&◌, ◌∈◌, here}
use Rattle.plane.specs.Vectors.{from, along, Supported, Separated}
use Rattle.plane.proofs.Twins.{signed_areaᴱ, pt, fromᴱ, alongᴱ}
use Rattle.plane.proofs.Lists.{in_map, first, rest, all_imp, all_map}
use Rattle.plane.proofs.Combos.{times, balanced}
use Rattle.plane.proofs.Sides.{side_supported, side_separated, dot_productᴱ}
use Rattle.plane.proofs.PolygonFacts.{Between, between_swap, between_balanced, apart_length, same_point}
use Rattle.plane.proofs.Others.{balanced_within}
use Rattle.turns.specs.Keys.{point_of}
use Rattle.locations.specs.Places.{PlaceSays}
use Rattle.locations.specs.Search.{OfSegment}
use Rattle.locations.specs.declared.Place.TheVariants.{OnLine, Off}
use Rattle.locations.proofs.Vertices.{line_right, all_one, all_between}

-- ---- two vertices v and w, with all points between them

module _ {qs : List Point} (v w p : Point) (h : All (Between v w) qs) where
  backward : All (Between w v) qs
  backward = all_imp (λ q b. between_swap b) h

  -- the plug is not in line with them
  beside : (signed_area v w p ≡ pos 0 → ⊥) → Separated (map (from 1 p) qs)
  beside ne = go (compareℤ (signed_area v w p) (pos 0))
    where
      go : Cmp (signed_area v w p) (pos 0) → Separated (map (from 1 p) qs)
      go (is_less k) = side_separated w v p (line_right w v backward)
          (cert 3 0 (λ v w p. signed_areaᴱ v w p ≺ # 0 ⟹ # 0 ≺ signed_areaᴱ w v p ∵ hyp 0) tt (pt v) (pt w) (pt p) k)
      go (is_same e) = absurd (ne e)
      go (is_more k) = side_separated v w p (line_right v w h) k

-- the plug is before v on the way to w
before : {qs : List Point} (v w p : Point) → All (Between v w) qs → dot_product v w p <ℤ pos 0 → Separated (map (from 1 p) qs)
before v w p h k =
    record {
      a = v.east -ℤ w.east;
      b = v.north -ℤ w.north;
      behind = all_map (from 1 p) (all_imp (λ q b. cert 4 0 (λ v w p q.
          dot_productᴱ v w p ≺ # 0 ⟹ # 0 ≼ dot_productᴱ v w q ⟹ alongᴱ (v.0 ⊖ w.0) (v.1 ⊖ w.1) (fromᴱ p q) ≺ # 0 ∵ hyp 0 ⊞ hyp 1) tt (pt v) (pt w) (pt p) (pt q) k b.past_v) h);
    }

module _ {qs : List Point} (v w p : Point) (ne : v ≡ w → ⊥) (h : All (Between v w) qs) (e : signed_area v w p ≡ pos 0) where
  -- it is in line with them, and both lie to one side of it
  beyond : pos 0 <ℤ dot_product p v w → Separated (map (from 1 p) qs)
  beyond k = go (lt_or_ge (dot_product v w p) (pos 0)) (lt_or_ge (dot_product w v p) (pos 0))
    where
      go : (dot_product v w p <ℤ pos 0) ⊎ (pos 0 ≤ℤ dot_product v w p) → (dot_product w v p <ℤ pos 0) ⊎ (pos 0 ≤ℤ dot_product w v p) → Separated (map (from 1 p) qs)
      go (inl x) y = before v w p h x
      go (inr x) (inl y) = before w v p (backward v w p h) y
      go (inr x) (inr y) = absurd (cert 3 0 (λ v w p.
          signed_areaᴱ v w p ≐ # 0 ⟹ # 0 ≺ dot_productᴱ p v w ⟹ # 0 ≺ dot_productᴱ v w w ⟹ # 0 ≼ dot_productᴱ v w p ⟹ # 0 ≼ dot_productᴱ w v p ⟹ bot
          ∵ hyp 1 ⊠ hyp 2 ⊞ hyp 3 ⊠ hyp 4 ⊞ eqn 0 (signed_areaᴱ v w p)) tt (pt v) (pt w) (pt p) e k (apart_length v w ne) x y)

  -- it is between them
  between : dot_product p v w ≤ℤ pos 0 → Between v w p
  between k =
      record {
        in_line = e;
        past_v = cert 3 0 (λ v w p. dot_productᴱ p v w ≼ # 0 ⟹ # 0 ≼ dot_productᴱ v w p ∵ hyp 0 ⊞ sq (p.0 ⊖ v.0) ⊞ sq (p.1 ⊖ v.1)) tt (pt v) (pt w) (pt p) k;
        before_w = cert 3 0 (λ v w p. dot_productᴱ p v w ≼ # 0 ⟹ # 0 ≼ dot_productᴱ w v p ∵ hyp 0 ⊞ sq (p.0 ⊖ w.0) ⊞ sq (p.1 ⊖ w.1)) tt (pt v) (pt w) (pt p) k;
      }

  on_segment : v ∈ qs → w ∈ qs → dot_product p v w ≤ℤ pos 0 → PlaceSays qs p OnLine
  on_segment mv mw k = (
    side_supported v w p ne (line_right v w h) (≡→≤ (sym e)),
    balanced_within (in_map (from 1 p) mv & in_map (from 1 p) mw & none) (between_balanced ne (between k)),
  )

-- ---- one vertex v, with all points at it

module _ {qs : List Point} (v p : Point) (h : All (λ q. q ≡ v) qs) where
  apart : pos 0 <ℤ dot_product p v v → Separated (map (from 1 p) qs)
  apart k =
      record {
        a = p.east -ℤ v.east;
        b = p.north -ℤ v.north;
        behind = all_map (from 1 p) (all_imp (λ q e. subst (λ r. along (p.east -ℤ v.east) (p.north -ℤ v.north) (from 1 p r) <ℤ pos 0) (sym e)
            (cert 2 0 (λ v p. # 0 ≺ dot_productᴱ p v v ⟹ alongᴱ (p.0 ⊖ v.0) (p.1 ⊖ v.1) (fromᴱ p v) ≺ # 0 ∵ hyp 0) tt (pt v) (pt p) k)) h);
      }

  at_point : v ∈ qs → dot_product p v v ≤ℤ pos 0 → PlaceSays qs p OnLine
  at_point m k = go (same_point p v)
    where
      supported : p ≡ v → Supported (map (from 1 p) qs)
      supported e =
          record {
            a = pos 1;
            b = pos 0;
            nonzero = λ z. lin 0 0 (# 1 ≐ # 0 ⟹ bot) (omega arith) z.0;
            behind = all_map (from 1 p) (all_imp (λ q f. ≡→≤ (lin 2 0 (λ p q. q.0 ≐ p.0 ⟹ # 1 ⊗ (q.0 ⊖ # 1 ⊗ p.0) ⊕ # 0 ⊗ (q.1 ⊖ # 1 ⊗ p.1) ≐ # 0) (omega arith)
                (pt p) (pt q) (ap (λ (r : Point). r.east) f ∙ sym (ap (λ (r : Point). r.east) e)))) h);
          }

      zero : {x y : ℤ} → x ≡ y → pos 1 *ℤ (y -ℤ pos 1 *ℤ x) ≡ pos 0
      zero {x} {y} = lin 0 2 (λ x y. x ≐ y ⟹ # 1 ⊗ (y ⊖ # 1 ⊗ x) ≐ # 0) (omega arith) x y

      go : Dec (p ≡ v) → PlaceSays qs p OnLine
      go (yes e) = (
        supported e,
        balanced (times {v = from 1 p v} (pos 1) (record { le = tt }) (in_map (from 1 p) m)) (zero (ap (λ (r : Point). r.east) e)) (zero (ap (λ (r : Point). r.north) e)) (record { lt = tt }),
      )
      go (no ne) = absurd (lin 0 1 (λ x. # 0 ≺ x ⟹ x ≼ # 0 ⟹ bot) (omega arith) _ (apart_length p v ne) k)

-- ---- of keys

module _ (a b k : ℕ) where
  pub segment_beside : (signed_area (point_of a) (point_of b) (point_of k) ≡ pos 0 → ⊥) → OfSegment a b k Off
  segment_beside ne =
      record {
        two = record { says = λ qs P. beside (point_of a) (point_of b) (point_of k) (all_between P) ne };
        one = λ e. absurd (ne (subst (λ x. signed_area (point_of a) (point_of x) (point_of k) ≡ pos 0) e (no_area (point_of a) (point_of k))));
      }
    where
      no_area : (v p : Point) → signed_area v v p ≡ pos 0
      no_area v p = ring 2 0 (λ v p. signed_areaᴱ v v p ≐ # 0) tt (pt v) (pt p)

  module _ (e : signed_area (point_of a) (point_of b) (point_of k) ≡ pos 0) where
    pub segment_beyond : pos 0 <ℤ dot_product (point_of k) (point_of a) (point_of b) → OfSegment a b k Off
    segment_beyond h =
        record {
          two = record { says = λ qs P. beyond (point_of a) (point_of b) (point_of k) (λ z. P.once_each.0 (here z)) (all_between P) e h };
          one = λ z. record { says = λ qs P. apart (point_of a) (point_of k) (all_one P) (subst (λ x. pos 0 <ℤ dot_product (point_of k) (point_of a) (point_of x)) (sym z) h) };
        }

    pub segment_on : dot_product (point_of k) (point_of a) (point_of b) ≤ℤ pos 0 → OfSegment a b k OnLine
    segment_on h =
        record {
          two = record {
            says = λ qs P. on_segment (point_of a) (point_of b) (point_of k) (λ z. P.once_each.0 (here z)) (all_between P) e
                (first P.only_extreme).listed (first (rest P.only_extreme)).listed h;
          };
          one = λ z. record {
            says = λ qs P. at_point (point_of a) (point_of k) (all_one P) (first P.only_extreme).listed
                (subst (λ x. dot_product (point_of k) (point_of a) (point_of x) ≤ℤ pos 0) (sym z) h);
          };
        }
