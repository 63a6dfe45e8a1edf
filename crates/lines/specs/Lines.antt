-- A line through two keys' points, and the side of it that a third key's point is on. Definitions only.
use Rattle.std.specs.Prelude.{◌≡◌, ℕ, ℤ, pos, ◌-ℤ◌, ◌*ℤ◌}
use Rattle.plane.specs.Points.{signed_area}
use Rattle.turns.specs.Keys.{IsKey, east_part, north_part, point_of}
use Rattle.lines.specs.declared.Line.{Line}

-- the line from a's point to b's: how far it goes east and north, and its offset from the south-west end of the span
pub record LineOf (a b : ℕ) (l : Line) : Type 0 where
  pub east : l.east ≡ (point_of b).east -ℤ (point_of a).east
  pub north : l.north ≡ (point_of b).north -ℤ (point_of a).north
  pub offset : l.offset ≡ ((point_of b).east -ℤ (point_of a).east) *ℤ pos (north_part a) -ℤ ((point_of b).north -ℤ (point_of a).north) *ℤ pos (east_part a)

-- it is the line of two keys
pub record Drawn (l : Line) : Type 0 where
  pub from : ℕ
  pub to : ℕ
  pub key_from : IsKey from
  pub key_to : IsKey to
  pub line : LineOf from to l

-- the answer is the signed area, whatever two keys the line is that of
pub record SideOf (l : Line) (k : ℕ) (r : ℤ) : Type 0 where
  pub area : (a b : ℕ) → LineOf a b l → r ≡ signed_area (point_of a) (point_of b) (point_of k)
