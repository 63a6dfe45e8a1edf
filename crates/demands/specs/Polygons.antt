-- The second demand, of the polygons: those of the partial convex hull map (docs/SCOPE.md 2), and that verdicts follow its sure interior and exterior. Definitions only.
use Rattle.std.specs.Prelude.{Result, ℕ, ◌↔◌, ◌≡◌, List, map, ℤ, length}
use Rattle.plane.specs.declared.Point.{Point}
use Rattle.plane.specs.Vectors.{from, Supported, Balanced}
use Rattle.rounds.specs.Refusals.{Fault, area_fault, verdict_fault}
use Rattle.rounds.specs.Replies.{result}
use Rattle.rounds.specs.declared.Word.TheVariants.{Inside, Outside}
use Rattle.verdicts.specs.Verdicts.{verdict_on}
use Rattle.areas.specs.Areas.{OuterAnswered, CornersAnswered}
use Rattle.rounds.specs.declared.Refusal.{Refusal}
use Rattle.polygons.specs.declared.VertexCounts.{VertexCounts}

-- the plug is in the hull of a polygon's vertices, edge included
abbrev pub InHull : List Point → Point → Type 0
InHull vs p = Balanced (map (from 1 p) vs)

-- the plug is strictly inside it
abbrev pub StrictlyInside : List Point → Point → Type 0
StrictlyInside vs p = Supported (map (from 1 p) vs) → ⊥

-- the verdict on a plug follows five polygons: outside exactly if it is off the outer one, inside exactly if it is strictly inside all four corner polygons
pub record Follows (boxes : List ℤ) (plug : Point) (outer sw se ne nw : List Point) : Type 0 where
  pub outside_exactly : (verdict_on boxes plug ≡ result Outside) ↔ (InHull outer plug → ⊥)
  pub inside_exactly : (verdict_on boxes plug ≡ result Inside) ↔ (StrictlyInside sw plug × StrictlyInside se plug × StrictlyInside ne plug × StrictlyInside nw plug)

-- the demand, of areas::outer_polygon and areas::corner_polygons: what they list for one list of boxes are its polygons (their promises), and the verdict on every plug
-- that is accepted follows them
pub record Demand2 : Type 0 where
  pub follows : (boxes before after before' after' : List ℤ) (reply : Result ℕ Refusal) (reply' : Result VertexCounts Refusal)
      (o : OuterAnswered boxes before reply after) (c : CornersAnswered boxes before' reply' after')
      → area_fault boxes (length before) ≡ Fault.none → area_fault boxes (length before') ≡ Fault.none
      → (plug : Point) → verdict_fault boxes plug ≡ Fault.none → Follows boxes plug o.outer c.sw c.se c.ne c.nw
