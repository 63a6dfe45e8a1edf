-- The verdict that is given, reasons included: it fixes the choice of reasons, so that calls can be proved equal. What the verdict means is `VerdictIs` (Verdicts).
-- Definitions only.
use Rattle.std.specs.Prelude.{Option, Some, None, Result, Ok, Err, List, ℕ, ℤ}
use Rattle.plane.specs.declared.Point.{Point}
use Rattle.turns.specs.Keys.{key_at}
use Rattle.rounds.specs.Boxes.{boxes_of}
use Rattle.rounds.specs.Refusals.{Fault, none, fault, verdict_fault}
use Rattle.rounds.specs.declared.Box.{Box}
use Rattle.rounds.specs.declared.Corner.TheVariants.{SouthWest}
use Rattle.rounds.specs.declared.Direction.{Direction}
use Rattle.rounds.specs.declared.Refusal.{Refusal}
use Rattle.rounds.specs.declared.Word.{Word}
use Rattle.views.specs.Looking.{view_of}
use Rattle.views.specs.declared.View.{View}
use Rattle.supports.specs.Supporting.{support_of}
use Rattle.balances.specs.Balancing.{balance_of}
use Rattle.balances.specs.declared.Entries.{Entries}
use Rattle.verdicts.specs.Verdicts.{verdict_word}
use Rattle.verdicts.specs.declared.Verdict.{Verdict}
use Rattle.verdicts.specs.declared.Verdict.TheVariants.{Inside, Outside, Undecided}

-- by what the corners tell each driver: three entries that balance, and a direction
abbrev pub verdict_by : Option Entries → Option Direction → Verdict
verdict_by None support = Outside
verdict_by (Some e) None = Inside
verdict_by (Some e) (Some d) = Undecided (record { direction = d; first = e.first; second = e.second; third = e.third })

-- of accepted boxes and the key of a plug, by the view of the south-west corners
abbrev pub verdict_from : ℕ → List Box → View → Verdict
verdict_from plug bs view = verdict_by (balance_of plug bs view) (support_of plug bs view)

-- under a fault the refusal by it, and under none the verdict
abbrev pub verdict_under : Fault → Verdict → Result Verdict Refusal
verdict_under none v = Ok v
verdict_under (fault cause place) v = Err (record { cause = cause; place = place })

-- the verdict that is given on boxes and a plug
unfoldable pub verdict_of : List ℤ → Point → Result Verdict Refusal
verdict_of boxes plug =
    verdict_under (verdict_fault boxes plug) (verdict_from (key_at plug) (boxes_of boxes) (view_of (key_at plug) SouthWest (boxes_of boxes)))

-- the word alone of a verdict
abbrev pub word_only : Result Verdict Refusal → Result Word Refusal
word_only (Ok v) = Ok (verdict_word v)
word_only (Err r) = Err r
