-- The hull of a polygon's vertices is that of its points, so that a plug's verdict can be read off the five polygons. Assumes nothing.
use mathlib.Core.Path.{◌≡◌, subst₂}
use mathlib.Core.Logic.{⊎_elim}
use mathlib.Core.List.{List, map}
use native.Mathlib.Omega.{arith}
use lib.IntN.{ℤ, pos}
use lib.Signed.{◌≤ℤ◌, ◌<ℤ◌}
use Rattle.integers.proofs.Expr.{#◌, ◌⊕◌, ◌⊗◌, ◌≼◌, ◌≺◌, ◌≐◌, ◌⟹◌, bot}
use Rattle.integers.proofs.Lin.{lin}
use Rattle.integers.proofs.Cert.{cert, hyp, ◌∵◌}
use Rattle.plane.specs.declared.Point.{Point}
use Rattle.plane.specs.Members.{All, ◌∈◌}
use Rattle.plane.specs.Vectors.{from, along, Supported, Balanced, Separated}
use Rattle.plane.specs.Polygons.{Polygon}
use Rattle.plane.proofs.Lists.{all_at, all_of, all_map, all_unmap, in_map}
use Rattle.plane.proofs.Twins.{pt, fromᴱ, alongᴱ}
use Rattle.plane.proofs.Alternative.{alternative}
use Rattle.plane.proofs.Combos.{separated_not_balanced}
use Rattle.plane.proofs.Others.{balanced_within}
use Rattle.plane.proofs.Reading.{behind_vertex}
use Rattle.rounds.specs.Boxes.{Ordered, boxes_of, corners_of, all_corners}
use Rattle.rounds.specs.Refusals.{Fault, verdict_fault}
use Rattle.rounds.specs.declared.Corner.TheVariants.{SouthWest, SouthEast, NorthEast, NorthWest}
use Rattle.rounds.specs.declared.Word.TheVariants.{Inside, Outside}
use Rattle.rounds.proofs.Corners.{by_corner, inside_iff}
use Rattle.rounds.proofs.Total.{outside_iff}
use Rattle.demands.specs.Polygons.{Follows, Demand2}
use Rattle.demands.proofs.Accepting.{ordered_boxes, reply_word, word_reply_lem}

-- ---- the hull of the vertices is that of the points

module _ {qs vs : List Point} (h : Polygon qs vs) (p : Point) where
  -- every vertex is one of the points
  listed : All (λ v. v ∈ qs) vs
  listed = all_of vs (λ v m. (all_at h.only_extreme m).listed)

  -- what holds of the vertices' vectors in a direction holds of the points'
  no_farther : (a b : ℤ) → ((a ≡ pos 0) × (b ≡ pos 0) → ⊥) → (q : Point) → q ∈ qs → (m : Point) × (m ∈ vs) × (along a b (from 1 p q) ≤ℤ along a b (from 1 p m))
  no_farther a b n q i =
      let r = behind_vertex h a b n q i in
      (r.0, r.1, cert 3 2 (λ p q m a b. alongᴱ a b q ≼ alongᴱ a b m ⟹ alongᴱ a b (fromᴱ p q) ≼ alongᴱ a b (fromᴱ p m) ∵ hyp 0) tt (pt p) (pt q) (pt r.0) a b r.2)

  supported_vertices : Supported (map (from 1 p) vs) → Supported (map (from 1 p) qs)
  supported_vertices s =
      record {
        a = s.a;
        b = s.b;
        nonzero = s.nonzero;
        behind = all_map (from 1 p) (all_of qs (λ q i.
            let r = no_farther s.a s.b s.nonzero q i in
            lin 0 2 (λ x y. x ≼ y ⟹ y ≼ # 0 ⟹ x ≼ # 0) (omega arith) _ _ r.2 (all_at (all_unmap (from 1 p) vs s.behind) r.1)));
      }

  supported_points : Supported (map (from 1 p) qs) → Supported (map (from 1 p) vs)
  supported_points s =
      record {
        a = s.a;
        b = s.b;
        nonzero = s.nonzero;
        behind = all_map (from 1 p) (all_of vs (λ v m. all_at (all_unmap (from 1 p) qs s.behind) (all_at listed m)));
      }

  balanced_points : Balanced (map (from 1 p) vs) → Balanced (map (from 1 p) qs)
  balanced_points b = balanced_within (all_map (from 1 p) (all_of vs (λ v m. in_map (from 1 p) (all_at listed m)))) b

  -- a direction that has all vertices strictly behind it is not zero, if there is a vertex
  separated_points : Separated (map (from 1 p) vs) → Separated (map (from 1 p) qs)
  separated_points s = record { a = s.a; b = s.b; behind = all_map (from 1 p) (all_of qs strictly) }
    where
      at_vertex : {m : Point} → m ∈ vs → along s.a s.b (from 1 p m) <ℤ pos 0
      at_vertex m = all_at (all_unmap (from 1 p) vs s.behind) m

      nonzero : (q : Point) → q ∈ qs → (s.a ≡ pos 0) × (s.b ≡ pos 0) → ⊥
      nonzero q i z =
          let r = behind_vertex h (pos 1) (pos 0) (λ e. lin 0 0 (# 1 ≐ # 0 ⟹ bot) (omega arith) e.0) q i in
          let u = from 1 p r.0 in
          lin 0 2 (λ x y. # 0 ⊗ x ⊕ # 0 ⊗ y ≺ # 0 ⟹ bot) (omega arith) u.east u.north (subst₂ (λ a b. along a b u <ℤ pos 0) z.0 z.1 (at_vertex r.1))

      strictly : (q : Point) → q ∈ qs → along s.a s.b (from 1 p q) <ℤ pos 0
      strictly q i =
          let r = no_farther s.a s.b (nonzero q i) q i in
          lin 0 2 (λ x y. x ≼ y ⟹ y ≺ # 0 ⟹ x ≺ # 0) (omega arith) _ _ r.2 (at_vertex r.1)

  balanced_vertices : Balanced (map (from 1 p) qs) → Balanced (map (from 1 p) vs)
  balanced_vertices b = ⊎_elim (λ c. c) (λ s. absurd (separated_not_balanced (separated_points s) b)) (alternative (map (from 1 p) vs))

-- ---- the verdict

-- the five polygons of some boxes decide the verdict on a plug
follows : (l : List ℤ) (p : Point) (outer sw se ne nw : List Point) → verdict_fault l p ≡ Fault.none → Polygon (all_corners (boxes_of l)) outer
    → Polygon (corners_of SouthWest (boxes_of l)) sw → Polygon (corners_of SouthEast (boxes_of l)) se → Polygon (corners_of NorthEast (boxes_of l)) ne → Polygon (corners_of NorthWest (boxes_of l)) nw
    → Follows l p outer sw se ne nw
follows l p outer sw se ne nw e o hsw hse hne hnw =
    record {
      outside_exactly = (
        λ r b. (outside_iff p os).0 (reply_word l p Outside r) (balanced_points o p b),
        λ n. word_reply_lem l p Outside e ((outside_iff p os).1 (λ b. n (balanced_vertices o p b))),
      );
      inside_exactly = (
        λ r. let f = (inside_iff p os).0 (reply_word l p Inside r) in (
          λ s. f SouthWest (supported_vertices hsw p s),
          λ s. f SouthEast (supported_vertices hse p s),
          λ s. f NorthEast (supported_vertices hne p s),
          λ s. f NorthWest (supported_vertices hnw p s),
        ),
        λ f. word_reply_lem l p Inside e ((inside_iff p os).1 (by_corner (λ c. Supported (map (from 1 p) (corners_of c (boxes_of l))) → ⊥)
            (λ s. f.0 (supported_points hsw p s)) (λ s. f.1 (supported_points hse p s)) (λ s. f.2 (supported_points hne p s)) (λ s. f.3 (supported_points hnw p s)))),
      );
    }
  where
    os : All Ordered (boxes_of l)
    os = ordered_boxes l p e

pub demand_2 : Demand2
demand_2 =
    record {
      follows = λ l before after before' after' reply reply' o c f f' p e.
          follows l p o.outer c.sw c.se c.ne c.nw e (o.polygon f) (c.southwest f') (c.southeast f') (c.northeast f') (c.northwest f');
    }
