-- Points as a list of keys. Definitions only.
use Rattle.std.specs.Prelude.{◌≡◌, List, map, ℕ, length, take}
use Rattle.plane.specs.Members.{All}
use Rattle.plane.specs.declared.Point.{Point}
use Rattle.turns.specs.Keys.{IsKey, point_of}

-- the first keys are those of the points, in their order
pub record KeysOf (qs : List Point) (ks : List ℕ) : Type 0 where
  pub keys : All IsKey (take (length qs) ks)
  pub points : map point_of (take (length qs) ks) ≡ qs
