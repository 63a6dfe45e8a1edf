-- The starred examples, by computation. Assumes nothing.
use mathlib.Core.Path.{refl, ◌≡◌, sym, subst}
use mathlib.Core.List.{List, [], ◌∷◌, map, reverse}
use native.Mathlib.Omega.{arith}
use mathlib.Core.Logic.{◌⊎◌, inl, inr}
use lib.IntN.{pos, negsuc}
use lib.Signed.{◌≤ℤ◌, ◌<ℤ◌}
use Rattle.integers.proofs.Expr.{◌⊕◌, ◌⊖◌, ◌⊗◌, ⊝◌, #◌, ◌≼◌, ◌≺◌, ◌⟹◌}
use Rattle.integers.proofs.Lin.{lin}
use Rattle.integers.proofs.Order.{lt_or_ge}
use Rattle.plane.specs.Points.{signed_area}
use Rattle.plane.specs.declared.Point.{Point}
use Rattle.plane.specs.Members.{All, none, ◌&◌, ◌∈◌, here, there}
use Rattle.plane.specs.Vectors.{from, Balanced, Separated}
use Rattle.plane.proofs.Combos.{separated_not_balanced}
use Rattle.rounds.specs.Boxes.{corners_of, all_corners}
use Rattle.rounds.specs.declared.Box.{Box}
use Rattle.rounds.specs.Picks.{Each}
use Rattle.rounds.specs.Words.{Means}
use Rattle.rounds.specs.declared.Word.TheVariants.{Inside, Outside, Undecided}
use Rattle.rounds.specs.declared.Corner.{Corner}
use Rattle.rounds.specs.declared.Corner.TheVariants.{SouthWest, SouthEast, NorthEast, NorthWest}
use Rattle.rounds.proofs.Checks.{inside_yes, outside_yes, second_yes, undecided_yes, polygon_yes}
use Rattle.plane.proofs.Winding.{winding_within}
use Rattle.rounds.specs.Refusals.{Fault, verdict_fault, box_list_fault, each_box_fault, box_fault, edge_beyond, edges_reversed, beyond, plug_fault}
use Rattle.rounds.specs.declared.Word.{Word}
use Rattle.records.specs.Records.{edges_of}
use Rattle.demands.specs.Stars.{at, B, L, One, entry, thirds, Star, Stars}
use Rattle.demands.specs.Polygons.{StrictlyInside}
use Rattle.demands.proofs.Accepting.{word_reply_lem}
use Rattle.demands.proofs.Picks.{boxes_of_edges}

-- what is accepted, and means what it says, is the reply
star : (bs : List Box) (p : Point) (w : Word) → verdict_fault (edges_of bs) p ≡ Fault.none → Means bs p w → Star bs p w
star bs p w e m = record { accepted = e; reply = word_reply_lem (edges_of bs) p w e (subst (λ l. Means l p w) (sym (boxes_of_edges bs)) m); means = m }

-- B's boxes stand anticlockwise
around : Corner → List Point
around c = reverse (corners_of c B)

-- over the denominator 1 the first box's point is at most 0 east, or at least 1: then (3, −2), or (−3, 1), has both points strictly behind it
no_whole : {qs : List Point} → Each 1 L qs → Balanced (map (from 1 (at 1 1)) qs) → ⊥
no_whole (Each.◌&◌ {q = q} w (Each.◌&◌ {q = r} v Each.none)) h = separated_not_balanced (go (lt_or_ge (pos 0) q.east)) h
  where
    go : (pos 0 <ℤ q.east) ⊎ (q.east ≤ℤ pos 0) → Separated (map (from 1 (at 1 1)) (q ∷ r ∷ []))
    go (inl k) =
        record {
          a = negsuc 2;
          b = pos 1;
          behind =
              lin 0 2 (λ e n. # 0 ≺ e ⟹ n ≼ # 0 ⟹ ⊝ # 3 ⊗ (e ⊖ # 1) ⊕ # 1 ⊗ (n ⊖ # 1) ≺ # 0) (omega arith) q.east q.north k w.to_north
              & lin 0 2 (λ e n. # 2 ≼ e ⟹ n ≼ # 3 ⟹ ⊝ # 3 ⊗ (e ⊖ # 1) ⊕ # 1 ⊗ (n ⊖ # 1) ≺ # 0) (omega arith) r.east r.north v.from_west v.to_north
              & none;
        }
    go (inr k) =
        record {
          a = pos 3;
          b = negsuc 1;
          behind =
              lin 0 2 (λ e n. e ≼ # 0 ⟹ # 0 ≼ n ⟹ # 3 ⊗ (e ⊖ # 1) ⊕ ⊝ # 2 ⊗ (n ⊖ # 1) ≺ # 0) (omega arith) q.east q.north k w.from_south
              & lin 0 2 (λ e n. e ≼ # 2 ⟹ # 3 ≼ n ⟹ # 3 ⊗ (e ⊖ # 1) ⊕ ⊝ # 2 ⊗ (n ⊖ # 1) ≺ # 0) (omega arith) r.east r.north v.to_east v.from_south
              & none;
        }

-- right of every side of a square from its south-west to its south-east vertex
in_square : (sw nw ne se p : Point) (qs : List Point)
    → (signed_area sw nw p <ℤ pos 0) × ((signed_area nw ne p <ℤ pos 0) × ((signed_area ne se p <ℤ pos 0) × (signed_area se sw p <ℤ pos 0)))
    → All (λ v. v ∈ qs) (sw ∷ nw ∷ ne ∷ se ∷ []) → StrictlyInside qs p
in_square sw nw ne se p qs s m = winding_within p sw (nw ∷ ne ∷ se ∷ []) qs s m

pub stars : Stars
unfolding around verdict_fault box_list_fault each_box_fault box_fault edge_beyond edges_reversed beyond plug_fault
stars =
    record {
      B-5-5 = star B (at 5 5) Inside refl (inside_yes B (at 5 5) around tt tt tt tt);
      B-3-3 = star B (at 3 3) Inside refl (inside_yes B (at 3 3) around tt tt tt tt);
      B-2-5 = star B (at 2 5) Undecided refl (undecided_yes B (at 2 5) SouthEast (negsuc 0) (pos 0) (entry 1 NorthEast 1 ∷ entry 4 SouthEast 1 ∷ entry 1 SouthWest 0 ∷ []) tt tt tt tt tt tt tt);
      B-2-5-on-south-east = record {
        from_vertex = at 2 0;
        to_vertex = at 2 8;
        from_in = here refl;
        to_in = there (there (there (here refl)));
        right = record { le = tt } & record { le = tt } & record { le = tt } & record { le = tt } & none;
        between = record { in_line = refl; past_v = record { le = tt }; before_w = record { le = tt } };
      };
      B-2-5-on-north-east = record {
        from_vertex = at 2 2;
        to_vertex = at 2 10;
        from_in = here refl;
        to_in = there (there (there (here refl)));
        right = record { le = tt } & record { le = tt } & record { le = tt } & record { le = tt } & none;
        between = record { in_line = refl; past_v = record { le = tt }; before_w = record { le = tt } };
      };
      B-2-5-in-south-west =
          in_square (at 0 0) (at 0 8) (at 8 8) (at 8 0) (at 2 5) (corners_of SouthWest B)
          (record { lt = tt }, (record { lt = tt }, (record { lt = tt }, record { lt = tt })))
          (here refl & there (there (there (here refl))) & there (there (here refl)) & there (here refl) & none);
      B-2-5-in-north-west =
          in_square (at 0 2) (at 0 10) (at 8 10) (at 8 2) (at 2 5) (corners_of NorthWest B)
          (record { lt = tt }, (record { lt = tt }, (record { lt = tt }, record { lt = tt })))
          (here refl & there (there (there (here refl))) & there (there (here refl)) & there (here refl) & none);
      B-0-0 = star B (at 0 0) Undecided refl (undecided_yes B (at 0 0) SouthWest (negsuc 0) (pos 0) (entry 1 SouthWest 1 ∷ entry 1 SouthWest 0 ∷ entry 1 SouthWest 0 ∷ []) tt tt tt tt tt tt tt);
      B-10-5 = star B (at 10 5) Undecided refl (undecided_yes B (at 10 5) NorthEast (pos 1) (pos 0) (entry 2 NorthEast 1 ∷ entry 3 SouthEast 1 ∷ entry 1 SouthWest 0 ∷ []) tt tt tt tt tt tt tt);
      B-11-5 = star B (at 11 5) Outside refl (outside_yes B (at 11 5) (pos 1) (pos 0) tt);
      B-outer = polygon_yes (all_corners B) (at 0 0) (at 0 10) (at 10 10) (at 10 0 ∷ []) tt tt tt tt;
      L-1-1 = star L (at 1 1) Undecided refl (undecided_yes L (at 1 1) SouthWest (pos 2) (negsuc 0) thirds tt tt tt tt tt tt tt);
      L-1-1-thirds = second_yes L (at 1 1) thirds tt tt tt tt;
      L-1-1-no-whole = λ qs. no_whole;
      L-1-2 = star L (at 1 2) Outside refl (outside_yes L (at 1 2) (negsuc 2) (pos 2) tt);
      One-2-2 = star One (at 2 2) Undecided refl (undecided_yes One (at 2 2) SouthWest (pos 1) (pos 0) (entry 1 SouthWest 1 ∷ entry 1 NorthEast 1 ∷ entry 1 SouthWest 0 ∷ []) tt tt tt tt tt tt tt);
    }
