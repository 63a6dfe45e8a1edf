-- Polygons written one behind another. Assumes nothing.
use mathlib.Core.Path.{◌≡◌, sym, ◌∙◌, ap}
use mathlib.Core.List.{List, ◌++◌, map, append_assoc}
use Prim.Native.Nat.{ℕ, ◌+◌, ◌*◌, ◌/◌, ◌≤◌}
use native.Mathlib.Omega.{arith}
use lib.IntN.{ℤ}
use lib.ListN.{length, take, drop, length-map, length-append}
use lib.Seq.{length-take-le}
use Rattle.plane.specs.declared.Point.{Point}
use Rattle.turns.specs.Keys.{point_of}
use Rattle.rounds.specs.Boxes.{boxes_of, corners_of}
use Rattle.rounds.specs.declared.Box.{Box}
use Rattle.rounds.specs.declared.Corner.TheVariants.{SouthWest, SouthEast, NorthEast, NorthWest}
use Rattle.rounds.proofs.Rows.{boxes_length}
use Rattle.outlines.specs.Outlines.{PolygonKeys}
use Rattle.listings.specs.Listings.{flat, over_front}
use Rattle.listings.proofs.Writing.{flat_length, flat_append, over_behind, over_part}
use Rattle.polygons.specs.Written.{PolygonWritten, TwoWritten, CornersWritten}

-- no more vertices than boxes, where each box gives one point
pub few : (f : Box → Point) (boxes : List ℤ) {count : ℕ} → count ≤ length (map f (boxes_of boxes)) → count ≤ length boxes / 4
few f boxes h = omega (arith, length-map (boxes_of boxes) f, boxes_length boxes)

-- the polygon's keys, and their points' numbers
pub written : (qs : List Point) (ks : List ℕ) (count : ℕ) (d after : List ℤ) → PolygonKeys qs ks count → count ≤ length ks → after ≡ over_front (flat (map point_of (take count ks))) d
    → PolygonWritten qs 0 d count after
written qs ks count d after p h e =
    record {
      vertices = map point_of (take count ks);
      made = record { polygon = p.polygon; counted = sym (length-map (take count ks) point_of ∙ length-take-le count ks h); few = p.few };
      buffer = e;
    }

-- vertices behind vertices, which stand behind the first k
more_vertices : (vs ws : List Point) (d xs ys : List ℤ) (k j : ℕ) → k + length vs * 2 ≡ j → j ≤ length d
    → xs ≡ take k d ++ over_front (flat vs) (drop k d) → ys ≡ take j xs ++ over_front (flat ws) (drop j xs) → ys ≡ take k d ++ over_front (flat (vs ++ ws)) (drop k d)
more_vertices vs ws d xs ys k j e h p q =
    q
    ∙ over_behind (take k d ++ flat vs) (flat ws) d xs j long h (p ∙ sym (over_part k (flat vs) d room))
    ∙ ap (λ l. over_front l d) (append_assoc (take k d) (flat vs) (flat ws) ∙ ap (λ l. take k d ++ l) (sym (flat_append vs ws)))
    ∙ over_part k (flat (vs ++ ws)) d room
  where
    room : k ≤ length d
    room = omega arith

    long : length (take k d ++ flat vs) ≡ j
    long = simp length-append (omega (arith, length-take-le k d room, flat_length vs))

-- a polygon behind another
pub two_written : (qs rs : List Point) (d xs ys : List ℤ) (k n m : ℕ) → k + n * 2 ≤ length d
    → PolygonWritten qs k d n xs → PolygonWritten rs (k + n * 2) xs m ys → TwoWritten qs rs k d n m ys
two_written qs rs d xs ys k n m h v w =
    record {
      vs = v.vertices;
      ws = w.vertices;
      first = v.made;
      second = w.made;
      buffer = let e : k + length v.vertices * 2 ≡ k + n * 2 = omega (arith, v.made.counted) in more_vertices v.vertices w.vertices d xs ys k (k + n * 2) e h v.buffer w.buffer;
    }

-- two behind two
pub corners_written : (bs : List Box) (d xs ys : List ℤ) (n₁ n₂ n₃ n₄ : ℕ) → (n₁ + n₂) * 2 ≤ length d
    → TwoWritten (corners_of SouthWest bs) (corners_of SouthEast bs) 0 d n₁ n₂ xs
    → TwoWritten (corners_of NorthEast bs) (corners_of NorthWest bs) ((n₁ + n₂) * 2) xs n₃ n₄ ys
    → CornersWritten bs d (record { southwest = n₁; southeast = n₂; northeast = n₃; northwest = n₄ }) ys
corners_written bs d xs ys n₁ n₂ n₃ n₄ h s n =
    record {
      sw = s.vs;
      se = s.ws;
      ne = n.vs;
      nw = n.ws;
      southwest = s.first;
      southeast = s.second;
      northeast = n.first;
      northwest = n.second;
      buffer = more_vertices (s.vs ++ s.ws) (n.vs ++ n.ws) d xs ys 0 ((n₁ + n₂) * 2) long h s.buffer n.buffer
          ∙ ap (λ l. over_front (flat l) d) (sym (append_assoc (s.vs ++ s.ws) n.vs n.ws));
    }
  where
    long : 0 + length (s.vs ++ s.ws) * 2 ≡ (n₁ + n₂) * 2
    long = simp length-append (omega (arith, s.first.counted, s.second.counted))
