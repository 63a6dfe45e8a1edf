-- The shapes of some boxes. Definitions only.
use Rattle.std.specs.Prelude.{List}
use Rattle.rounds.specs.declared.Box.{Box}
use Rattle.outlines.specs.RoundPolygons.{RoundPolygons}
use Rattle.plug_words.specs.declared.RoundShapes.{RoundShapes}

-- they are the shapes of the boxes
abbrev pub ShapesOf : List Box → RoundShapes → Type 0
ShapesOf bs shapes = RoundPolygons bs shapes.polygons.vertices.now shapes.polygons.counts
