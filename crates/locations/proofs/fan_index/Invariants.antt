-- `locations::fan_index` meets its contract. The loop's invariant: as seen from the first vertex, the plug lies between the vertices at low and at high.
-- The measure is how far these are apart. Assumes nothing.
use Prim.Native.Nat.{ℕ, ◌-◌, ◌≤◌, ◌<◌}
use mathlib.Core.List.{List}
use lib.IntN.{pos}
use lib.Signed.{◌≤ℤ◌}
use lib.ListN.{length}
use Rattle.plane.specs.Points.{signed_area}
use Rattle.turns.specs.Keys.{point_of}
use Rattle.locations.specs.Search.{vertex_at}
use Rattle.locations.proofs.fan_index.Given as goal

-- the plug lies between the vertices at low and at high, as seen from the first
pub record Narrowed (ks : List ℕ) (k low high : ℕ) : Type 0 where
  pub later : 1 ≤ low
  pub apart : low < high
  pub in_range : high < length ks
  pub right : signed_area (vertex_at ks 0) (vertex_at ks low) (point_of k) ≤ℤ pos 0
  pub left : pos 0 ≤ℤ signed_area (vertex_at ks 0) (vertex_at ks high) (point_of k)

abbrev pub invariant-loop-low : goal.invariant-loop-low
invariant-loop-low l = Narrowed l.vertices.codes.now l.plug l.low l.high

abbrev pub decreases-loop-low : goal.decreases-loop-low
decreases-loop-low l = l.high - l.low
