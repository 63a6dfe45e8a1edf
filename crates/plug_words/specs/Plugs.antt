-- The word of a plug against the polygons of a round, and boxes in which every plug is inside. Definitions only.
use Rattle.std.specs.Prelude.{Result, Ok, ℕ, ◌≡◌, List}
use Rattle.plane.specs.declared.Point.{Point}
use Rattle.plane.specs.Members.{All}
use Rattle.rounds.specs.Boxes.{Ordered}
use Rattle.rounds.specs.Picks.{InBox}
use Rattle.rounds.specs.Replies.{reply_of}
use Rattle.rounds.specs.declared.Box.{Box}
use Rattle.rounds.specs.declared.Refusal.{Refusal}
use Rattle.rounds.specs.declared.Word.{Word}
use Rattle.rounds.specs.declared.Word.TheVariants.{Inside}
use Rattle.outlines.specs.RoundPolygons.{RoundPolygons}
use Rattle.outlines.specs.declared.RoundCounts.{RoundCounts}
use Rattle.texts.specs.Text.{plug_reply}

-- the word of a plug, or its refusal, for all ordered boxes whose polygons they are
pub record WordBy (vertices : List ℕ) (counts : RoundCounts) (plug : Point) (reply : Result Word Refusal) : Type 0 where
  pub says : (bs : List Box) → All Ordered bs → RoundPolygons bs vertices counts → reply_of reply ≡ plug_reply bs plug

-- every plug in the box b, its edges included, is inside
pub record Sure (vertices : List ℕ) (counts : RoundCounts) (b : Box) : Type 0 where
  pub says : (plug : Point) → InBox 1 b plug → WordBy vertices counts plug (Ok Inside)
