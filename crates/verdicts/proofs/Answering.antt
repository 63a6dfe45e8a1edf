-- From what the corners tell each driver to the verdict on a plug: the word is the only one, and what is given means what it says. Assumes nothing.
use mathlib.Core.Path.{◌≡◌, refl, sym, ◌∙◌, ap, subst}
use Rattle.std.specs.Prelude.{Option, Some, None, Result, Ok, Err}
use mathlib.Core.List.{List, [], ◌∷◌, map}
use Prim.Native.Nat.{ℕ}
use native.Mathlib.Omega.{arith}
use lib.IntN.{ℤ}
use Rattle.plane.specs.declared.Point.{Point}
use Rattle.plane.specs.Members.{All}
use Rattle.plane.specs.Vectors.{from, Separated}
use Rattle.turns.specs.Keys.{IsKey, key_at, point_of}
use Rattle.turns.proofs.Coordinates.{key_at_lem}
use Rattle.rounds.specs.Boxes.{Ordered, BoxInSpan, boxes_of, all_corners}
use Rattle.rounds.specs.declared.Box.{Box}
use Rattle.rounds.specs.Reasons.{Reasoned}
use Rattle.rounds.specs.Refusals.{Fault, fault, refusal_fault, box_list_fault, plug_fault, verdict_fault}
use Rattle.rounds.specs.Replies.{result, refusal_reply, reply_under}
use Rattle.rounds.specs.Words.{Means, word_of}
use Rattle.rounds.specs.declared.Corner.TheVariants.{SouthWest}
use Rattle.rounds.specs.declared.Direction.{Direction}
use Rattle.rounds.specs.declared.Word.{Word}
use Rattle.rounds.specs.declared.Word.TheVariants.{Inside, Outside, Undecided}
use Rattle.rounds.specs.declared.Reasons.{Reasons}
use Rattle.rounds.specs.declared.Refusal.{Refusal}
use Rattle.rounds.proofs.Words.{undecided_by}
use Rattle.rounds.proofs.Accepted.{or_else_none, accepted, plug_accepted}
use Rattle.rounds.proofs.Corners.{inside_by_corners, outside_by_corners}
use Rattle.rounds.proofs.Entries.{mean_pick, second_succeeds}
use Rattle.rounds.proofs.Total.{exactly}
use Rattle.views.specs.Looking.{view_of}
use Rattle.views.proofs.Viewing.{view_says}
use Rattle.supports.specs.Supports.{SupportSays}
use Rattle.supports.specs.Supporting.{support_of}
use Rattle.supports.proofs.Answering.{support_says}
use Rattle.balances.specs.Balances.{BalanceSays}
use Rattle.balances.specs.Balancing.{balance_of}
use Rattle.balances.proofs.Answering.{balance_says}
use Rattle.balances.specs.declared.Entries.{Entries}
use Rattle.verdicts.specs.declared.Verdict.{Verdict}
use Rattle.verdicts.specs.declared.Verdict.TheVariants as Verdict'
use Rattle.verdicts.specs.Verdicts.{Judged, verdict_on, VerdictIs}
use Rattle.verdicts.specs.Answers.{verdict_by, verdict_from, verdict_under, verdict_of}

-- boxes and a plug that no cause turns back
pub verdict_accepted : (l : List ℤ) (p : Point) → verdict_fault l p ≡ Fault.none → (box_list_fault l ≡ Fault.none) × (plug_fault 1 p ≡ Fault.none)
unfolding verdict_fault
verdict_accepted l p e = or_else_none (box_list_fault l) (plug_fault 1 p) e

result_inj : {v w : Word} → result v ≡ result w → v ≡ w
result_inj e = cc

undecided_inj : {r s : Reasons} → ◌≡◌ {A = Result Verdict Refusal} (Ok (Verdict'.Undecided r)) (Ok (Verdict'.Undecided s)) → r ≡ s
undecided_inj e = cc

-- reasons that hold show that the plug is undecided
reasoned_means : (bs : List Box) (p : Point) (r : Reasons) → All Ordered bs → Reasoned bs p r → Means bs p Undecided
reasoned_means bs p r os h =
    undecided_by p os r.direction.corner r.direction.east r.direction.north (r.first ∷ r.second ∷ r.third ∷ []) h.first_driver.reason h.second_driver.reason

-- a refusal is the reply under its fault
refused_reply : (l : List ℤ) (p : Point) (r : Refusal) → verdict_fault l p ≡ refusal_fault r → refusal_reply r ≡ verdict_on l p
refused_reply l p r e = sym (ap (λ f. reply_under f (word_of (boxes_of l) p)) e)

-- what is judged of accepted boxes and a plug is the verdict
judged_is : (l : List ℤ) (p : Point) (v : Verdict) → verdict_fault l p ≡ Fault.none → Judged (boxes_of l) p v → VerdictIs l p (Ok v)
judged_is l p v e = go v
  where
    os : All Ordered (boxes_of l)
    os = (accepted l (verdict_accepted l p e).0).ordered

    -- the word that its meaning shows is the reply
    told : (w : Word) → Means (boxes_of l) p w → result w ≡ verdict_on l p
    told w m = ap result ((exactly (boxes_of l) p os w).0 m) ∙ sym (ap (λ f. reply_under f (word_of (boxes_of l) p)) e)

    go : (v : Verdict) → Judged (boxes_of l) p v → VerdictIs l p (Ok v)
    go Verdict'.Inside h = record { reply = told Inside h; reasons = λ r i. absurd (let z : ◌≡◌ {A = ℕ} 0 1 = cc in omega arith) }
    go Verdict'.Outside h = record { reply = told Outside h; reasons = λ r i. absurd (let z : ◌≡◌ {A = ℕ} 0 1 = cc in omega arith) }
    go (Verdict'.Undecided s) h =
        record { reply = told Undecided (reasoned_means (boxes_of l) p s os h); reasons = λ r i. subst (Reasoned (boxes_of l) p) (undecided_inj i) h }

-- ---- the verdict that is given

-- what the drivers are told decides
by_drivers : (bs : List Box) (p : Point) (b : Option Entries) (s : Option Direction) → BalanceSays bs p b → SupportSays bs p s → Judged bs p (verdict_by b s)
by_drivers bs p None s h g = outside_by_corners p h
by_drivers bs p (Some e) None h g = inside_by_corners p g
by_drivers bs p (Some e) (Some d) h g = record { first_driver = g; second_driver = h }

judged_from : (k : ℕ) → IsKey k → (bs : List Box) → All BoxInSpan bs → Judged bs (point_of k) (verdict_from k bs (view_of k SouthWest bs))
judged_from k hk bs h =
    let view = view_of k SouthWest bs in
    let o = view_says k bs h SouthWest in
    by_drivers bs (point_of k) (balance_of k bs view) (support_of k bs view) (balance_says k bs h view o) (support_says k hk bs h view o)

pub judged_found : (k : ℕ) → IsKey k → (bs : List Box) → All BoxInSpan bs → {v : Verdict} → v ≡ verdict_from k bs (view_of k SouthWest bs) → Judged bs (point_of k) v
judged_found k hk bs h e = subst (λ v. Judged bs (point_of k) v) (sym e) (judged_from k hk bs h)

-- a plug that is outside is found to be
pub outside_from : (k : ℕ) (bs : List Box) → All BoxInSpan bs → All Ordered bs → Separated (map (from 1 (point_of k)) (all_corners bs))
    → Verdict'.Outside ≡ verdict_from k bs (view_of k SouthWest bs)
outside_from k bs h os s = go (balance_of k bs (view_of k SouthWest bs)) (balance_says k bs h (view_of k SouthWest bs) (view_says k bs h SouthWest))
  where
    go : (b : Option Entries) → BalanceSays bs (point_of k) b → Verdict'.Outside ≡ verdict_by b (support_of k bs (view_of k SouthWest bs))
    go None m = refl
    go (Some e) m = absurd (outside_by_corners (point_of k) s (mean_pick os (e.first ∷ e.second ∷ e.third ∷ [])) (second_succeeds (point_of k) os _ m.reason))

-- of boxes and a plug that no cause turns back
abbrev found : List ℤ → Point → Verdict
found l p = verdict_from (key_at p) (boxes_of l) (view_of (key_at p) SouthWest (boxes_of l))

-- it is the verdict
pub verdict_of_is : (l : List ℤ) (p : Point) → VerdictIs l p (verdict_of l p)
unfolding verdict_of
verdict_of_is l p = go (verdict_fault l p) refl
  where
    go : (f : Fault) → verdict_fault l p ≡ f → VerdictIs l p (verdict_under f (found l p))
    go Fault.none e =
        let a = verdict_accepted l p e in
        let k = key_at_lem p (plug_accepted 1 p a.1) in
        judged_is l p (found l p) e (subst (λ q. Judged (boxes_of l) q (found l p)) k.is (judged_from (key_at p) k.key (boxes_of l) (accepted l a.0).in_span))
    go (fault c k) e = record { reply = refused_reply l p (record { cause = c; place = k }) e; reasons = λ r i. absurd (let z : ◌≡◌ {A = ℕ} 0 1 = cc in omega arith) }

-- an answer that is the one given
pub given_is : {l : List ℤ} {p : Point} {v : Result Verdict Refusal} → v ≡ verdict_of l p → VerdictIs l p v × (v ≡ verdict_of l p)
given_is {l} {p} e = (subst (VerdictIs l p) (sym e) (verdict_of_is l p), e)

-- a refusal by the fault
pub refused_given : (l : List ℤ) (p : Point) (r : Refusal) → verdict_fault l p ≡ refusal_fault r → Err r ≡ verdict_of l p
unfolding verdict_of
refused_given l p r e = sym (ap (λ f. verdict_under f (found l p)) e)

-- and else by the drivers, with the key of the plug
pub judged_given : (l : List ℤ) (p : Point) (k : ℕ) → k ≡ key_at p → verdict_fault l p ≡ Fault.none → Ok (verdict_from k (boxes_of l) (view_of k SouthWest (boxes_of l))) ≡ verdict_of l p
unfolding verdict_of
judged_given l p k i e = ap (λ k. Ok (verdict_from k (boxes_of l) (view_of k SouthWest (boxes_of l)))) i ∙ sym (ap (λ f. verdict_under f (found l p)) e)
