-- `locations::fan_index` meets its contract. Assumes nothing.
use mathlib.Core.Path.{◌≡◌, subst}
use Prim.Native.Nat.{ℕ, ◌+◌, ◌-◌, ◌≤◌}
use mathlib.Core.List.{List}
use native.Mathlib.Omega.{arith}
use lib.IntN.{pos}
use lib.Signed.{◌≤ℤ◌}
use lib.ListN.{length}
use Rattle.plane.specs.Points.{signed_area}
use Rattle.turns.specs.Keys.{point_of}
use Rattle.locations.specs.Search.{vertex_at, FanWedge}
use Rattle.locations.proofs.Vertices.{turned}
use Rattle.locations.proofs.fan_index.Goals as goal
use Rattle.locations.proofs.fan_index.Invariants.{Narrowed}

-- nothing is between them
narrowest : {ks : List ℕ} {k low high : ℕ} → Narrowed ks k low high → high ≤ low + 1 → FanWedge ks k low
narrowest {ks} {k} {low} {high} h l =
    let e : high ≡ low + 1 = omega (arith, h.apart) in
    record {
      later = h.later;
      in_range = omega (arith, h.in_range);
      right = h.right;
      left = subst (λ i. pos 0 ≤ℤ signed_area (vertex_at ks 0) (vertex_at ks i) (point_of k)) e h.left;
    }

pub loop-low-init : goal.loop-low-init
loop-low-init c =
    let ks = c.args.vertices.codes.now in
    record {
      later = omega arith;
      apart = omega arith;
      in_range = omega arith;
      right = c.requires.first_side;
      left = turned (vertex_at ks (length ks - 1)) (vertex_at ks 0) (point_of c.args.plug) c.requires.last_side;
    }

pub returns : goal.returns
returns c = narrowest c.loop-low.invariant c.loop-low-test.false
