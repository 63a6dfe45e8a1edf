-- `balances::balance_of` meets its contract: the south-west corners give entries, or the corners of every box are looked at. Assumes nothing.
use Rattle.std.specs.Option.{option_or}
use Rattle.std.specs.Prelude.{Option}
use mathlib.Core.Path.{◌≡◌, sym, ◌∙◌, ap}
use mathlib.Core.List.{List}
use Prim.Native.Nat.{ℕ}
use Rattle.rounds.specs.Boxes.{boxes_of, corners_of}
use Rattle.rounds.specs.declared.Box.{Box}
use Rattle.rounds.specs.declared.Corner.TheVariants.{SouthWest}
use Rattle.passes.specs.declared.CornerSet.TheVariants.{Four}
use Rattle.views.specs.Looking.{looked_over}
use Rattle.views.specs.declared.View.{View}
use Rattle.balances.specs.Balancing.{balance_of_view, balance_of}
use Rattle.balances.specs.declared.Entries.{Entries}
use Rattle.balances.proofs.Answering.{by_all}
use Rattle.balances.proofs.balance_of.Goals as goal

-- what the south-west corners give decides
by-sw : (plug : ℕ) (bs : List Box) (view : View) {r : Option Entries} → balance_of_view plug view ≡ r
    → option_or r (balance_of_view plug (looked_over plug Four 1 view bs)) ≡ balance_of plug bs view
by-sw plug bs view e = ap (λ x. option_or x (balance_of_view plug (looked_over plug Four 1 view bs))) (sym e)

pub returns-in-Some : goal.returns-in-Some
returns-in-Some c =
    let e = by-sw c.args.plug (boxes_of c.args.boxes.numbers.now) c.args.view.now (sym c.balance_by.ensures.exact ∙ c.in-Some.is) in
    record { exact = e; balances = by_all c.args.plug (boxes_of c.args.boxes.numbers.now) c.args.boxes.accepted.in_span c.args.view.now c.requires e }

pub balance_by-requires-2 : goal.balance_by-requires-2
balance_by-requires-2 c = record { boxes = _; points = _; says = (c.look_over-all.ensures.looks_over.says (corners_of SouthWest (boxes_of c.args.boxes.numbers.now)) c.requires).of_cone }

pub returns : goal.returns
returns c =
    let e = c.balance_by-2.ensures.exact ∙ ap (balance_of_view c.args.plug) c.look_over-all.ensures.exact ∙ by-sw c.args.plug (boxes_of c.args.boxes.numbers.now) c.args.view.now (sym c.balance_by.ensures.exact ∙ c.in_default.is) in
    record { exact = e; balances = by_all c.args.plug (boxes_of c.args.boxes.numbers.now) c.args.boxes.accepted.in_span c.args.view.now c.requires e }
