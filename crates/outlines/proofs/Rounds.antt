-- Polygons one behind another: each is kept where the next is written behind it. Assumes nothing.
use mathlib.Core.Path.{◌≡◌, refl, sym, ◌∙◌, ap, subst}
use mathlib.Core.List.{List, [], ◌∷◌, ◌++◌, map, append-nil}
use Prim.Native.Nat.{ℕ, zero, suc, ◌+◌, ◌-◌, ◌≤◌}
use native.Mathlib.Nat.{le_of_eq}
use native.Mathlib.Omega.{arith}
use lib.ListN.{length, take, drop, length-drop, drop_of_length-le}
use lib.Seq.{length-take-le, take-take, take_at, drop_at}
use Rattle.plane.specs.Members.{All}
use Rattle.plane.specs.declared.Point.{Point}
use Rattle.plane.specs.Polygons.{Polygon}
use Rattle.turns.specs.Keys.{IsKey, point_of}
use Rattle.rounds.specs.Boxes.{corners_of, all_corners}
use Rattle.rounds.specs.declared.Box.{Box}
use Rattle.rounds.specs.declared.Corner.{Corner}
use Rattle.rounds.specs.declared.Corner.TheVariants.{SouthWest, SouthEast, NorthEast, NorthWest}
use Rattle.outlines.specs.declared.RoundCounts.{RoundCounts}
use Rattle.outlines.specs.Outlines.{PolygonKeys, PolygonBehind, TwoBehind}
use Rattle.outlines.specs.RoundPolygons.{start_of, count_of, RoundPolygons}

-- a part that was lent on and is back: ys is what the callee left of it
pub behind : (qs : List Point) (from : ℕ) (xs ys : List ℕ) (count : ℕ) → from ≤ length xs → PolygonKeys qs ys count
    → PolygonBehind qs from xs count (take from xs ++ (ys ++ drop (length xs - from) (drop from xs)))
behind qs from xs ys count h p =
    record { kept = take_at (take from xs) _ from long; behind = subst (λ l. PolygonKeys qs l count) (sym rest) p }
  where
    long : length (take from xs) ≡ from
    long = length-take-le from xs h

    rest : drop from (take from xs ++ (ys ++ drop (length xs - from) (drop from xs))) ≡ ys
    rest =
        drop_at (take from xs) (ys ++ drop (length xs - from) (drop from xs)) from long
        ∙ ap (λ l. ys ++ l) (drop_of_length-le (drop from xs) (le_of_eq (length-drop from xs))) ∙ append-nil ys

-- n keys from a on, of the first m
part_of : (a n m : ℕ) (l : List ℕ) → a + n ≤ m → take n (drop a (take m l)) ≡ take n (drop a l)
part_of zero n m l h = take-take n m l (omega arith)
part_of (suc a) n zero l h = absurd (omega arith)
part_of (suc a) n (suc m) [] h = refl
part_of (suc a) n (suc m) (x ∷ l) h = part_of a n m l (omega arith)

-- a polygon of n vertices from a on, among the first m keys, which are kept
still : {qs : List Point} (x y : List ℕ) (m a n : ℕ) → a + n ≤ m → take m y ≡ take m x → PolygonKeys qs (drop a x) n → PolygonKeys qs (drop a y) n
still {qs} x y m a n h e p =
    record { some = p.some; few = p.few; keys = subst (All IsKey) same p.keys; polygon = subst (λ l. Polygon qs (map point_of l)) same p.polygon }
  where
    same : take n (drop a x) ≡ take n (drop a y)
    same = sym (part_of a n m x h) ∙ ap (λ l. take n (drop a l)) (sym e) ∙ part_of a n m y h

-- a polygon behind another
pub two : {qs rs : List Point} {from n m : ℕ} {x y z : List ℕ} → PolygonBehind qs from x n y → PolygonBehind rs (from + n) y m z → TwoBehind qs rs from x n m z
two {from = from} {n = n} {y = y} {z = z} f g =
    record {
      kept = sym (take-take from (from + n) z (omega arith)) ∙ ap (take from) g.kept ∙ take-take from (from + n) y (omega arith) ∙ f.kept;
      behind = still y z (from + n) from n (omega arith) g.kept f.behind;
      next = g.behind;
    }

-- the outer polygon, and behind it two and two corner polygons
pub five : (bs : List Box) (x y z : List ℕ) (n₀ n₁ n₂ n₃ n₄ : ℕ) → n₀ + n₁ + n₂ + n₃ + n₄ ≤ length z → PolygonKeys (all_corners bs) x n₀
    → TwoBehind (corners_of SouthWest bs) (corners_of SouthEast bs) n₀ x n₁ n₂ y
    → TwoBehind (corners_of NorthEast bs) (corners_of NorthWest bs) (n₀ + n₁ + n₂) y n₃ n₄ z
    → RoundPolygons bs z (record { outer = n₀; southwest = n₁; southeast = n₂; northeast = n₃; northwest = n₄ })
five bs x y z n₀ n₁ n₂ n₃ n₄ h p s n =
    record { enough = h; outer = still y z (n₀ + n₁ + n₂) 0 n₀ (omega arith) n.kept (still x y n₀ 0 n₀ (omega arith) s.kept p); corners = corner }
  where
    counts : RoundCounts
    counts = record { outer = n₀; southwest = n₁; southeast = n₂; northeast = n₃; northwest = n₄ }

    corner : (c : Corner) → PolygonKeys (corners_of c bs) (drop (start_of counts c) z) (count_of counts c)
    corner SouthWest = still y z (n₀ + n₁ + n₂) n₀ n₁ (omega arith) n.kept s.behind
    corner SouthEast = still y z (n₀ + n₁ + n₂) (n₀ + n₁) n₂ (omega arith) n.kept s.next
    corner NorthEast = n.behind
    corner NorthWest = n.next
