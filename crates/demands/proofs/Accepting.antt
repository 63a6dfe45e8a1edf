-- Between a reply and the meaning of its word. Assumes nothing.
use mathlib.Core.Path.{◌≡◌, refl, sym, ◌∙◌, ap}
use mathlib.Core.List.{List}
use Prim.Native.Nat.{ℕ}
use native.Mathlib.Omega.{arith}
use lib.IntN.{ℤ}
use Rattle.plane.specs.declared.Point.{Point}
use Rattle.plane.specs.Members.{All}
use Rattle.rounds.specs.Boxes.{Ordered, boxes_of}
use Rattle.rounds.specs.Refusals.{Fault, verdict_fault}
use Rattle.rounds.specs.Replies.{result, reply_under}
use Rattle.rounds.specs.Words.{Means, word_of}
use Rattle.rounds.specs.declared.Word.{Word}
use Rattle.rounds.proofs.Accepted.{accepted}
use Rattle.rounds.proofs.Total.{exactly}
use Rattle.verdicts.specs.Verdicts.{verdict_on}
use Rattle.verdicts.proofs.Answering.{verdict_accepted}

pub result_inj : {v w : Word} → result v ≡ result w → v ≡ w
result_inj e = cc

-- a reply that is a result is under no fault, and is what is worked out
under_none : (f : Fault) (v w : Word) → reply_under f v ≡ result w → (f ≡ Fault.none) × (v ≡ w)
under_none Fault.none v w e = (refl, result_inj e)
under_none (Fault.fault c p) v w e = absurd (cc)

-- accepted boxes are ordered
pub ordered_boxes : (l : List ℤ) (p : Point) → verdict_fault l p ≡ Fault.none → All Ordered (boxes_of l)
ordered_boxes l p e = (accepted l (verdict_accepted l p e).0).ordered

-- the word of a reply means what it says
pub reply_word : (l : List ℤ) (p : Point) (w : Word) → verdict_on l p ≡ result w → Means (boxes_of l) p w
reply_word l p w h =
    let r = under_none (verdict_fault l p) (word_of (boxes_of l) p) w h in
    (exactly (boxes_of l) p (ordered_boxes l p r.0) w).1 (sym r.1)

-- a word that means what it says is the reply
pub word_reply_lem : (l : List ℤ) (p : Point) (w : Word) → verdict_fault l p ≡ Fault.none → Means (boxes_of l) p w → verdict_on l p ≡ result w
word_reply_lem l p w e m = ap (λ f. reply_under f (word_of (boxes_of l) p)) e ∙ ap result (sym ((exactly (boxes_of l) p (ordered_boxes l p e) w).0 m))
