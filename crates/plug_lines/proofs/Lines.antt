-- The plugs' lines: their lengths, and the loop that writes them. Assumes nothing.
use mathlib.Core.Path.{◌≡◌, refl, sym, ◌∙◌, ap}
use mathlib.Core.List.{List, [], ◌∷◌, ◌++◌, append-nil, append_assoc}
use Prim.Native.Nat.{ℕ, ◌+◌, ◌-◌, ◌*◌, ◌/◌, ◌≤◌, ◌<◌}
use native.Mathlib.Nat.{add-zero}
use native.Mathlib.Omega.{arith}
use lib.IntN.{ℤ, pos}
use lib.ListN.{length, take, drop, length-append, length-drop}
use Rattle.std.specs.Prelude.{Result}
use Rattle.integers.proofs.Parts.{drop_two, tail_is}
use Rattle.plane.specs.declared.Point.{Point}
use Rattle.plane.specs.Members.{All}
use Rattle.rounds.specs.Boxes.{Ordered, plugs_of}
use Rattle.rounds.specs.declared.Box.{Box}
use Rattle.rounds.specs.Replies.{Reply, result, refused, reply_of}
use Rattle.rounds.specs.declared.Word.{Word}
use Rattle.rounds.specs.declared.Word.TheVariants.{Inside, Outside, Undecided}
use Rattle.rounds.specs.Boxes.{plug_at}
use Rattle.outlines.specs.RoundPolygons.{RoundPolygons}
use Rattle.outlines.specs.declared.RoundCounts.{RoundCounts}
use Rattle.rounds.specs.declared.Refusal.{Refusal}
use Rattle.texts.specs.Decimals.{decimal}
use Rattle.texts.specs.Text.{after_number, plug_reply, plug_line, plug_lines, Wrote}
use Rattle.plug_lines.specs.Steps.{most_after_number, most_plug_line, most_plugs, RoomBehind}
use Rattle.plug_words.specs.Plugs.{WordBy}
use Rattle.texts.proofs.Decimals.{few_digits}
use Rattle.texts.proofs.Writing.{wrote_none, then_wrote, wrote_length}

-- ---- one line

-- what stands after a number has at most 11 bytes
few_after : (reply : Reply Word) → length (after_number reply) ≤ most_after_number
few_after (result Inside) = omega arith
few_after (result Outside) = omega arith
few_after (result Undecided) = omega arith
few_after (refused number place) = omega arith

-- so a line whose number has four digits has at most 15
pub few_bytes : (k : ℕ) (reply : Reply Word) → k ≤ most_plugs → length (plug_line k reply) ≤ most_plug_line
unfolding plug_line
few_bytes k reply h = omega (arith, length-append (decimal k) (after_number reply), few_after reply, few_digits 3 k (omega arith))

-- the lines of plugs, of which the last has the number most_plugs at most
pub few_lines : (k : ℕ) (bs : List Box) (ps : List Point) → k + length ps ≤ most_plugs + 1 → length (plug_lines k bs ps) ≤ most_plug_line * length ps
unfolding plug_lines
few_lines k bs [] h = omega arith
few_lines k bs (p ∷ ps) h =
    let r = plug_reply bs p in
    omega (arith, length-append (plug_line k r) (plug_lines (k + 1) bs ps), few_bytes k r (omega arith), few_lines (k + 1) bs ps (omega arith))

-- ---- the loop

-- one number is no plug
no_plug : (l : List ℤ) → length l < 2 → plugs_of l ≡ []
no_plug [] h = refl
no_plug (e ∷ []) h = refl
no_plug (e ∷ n ∷ l) h = absurd (omega arith)

-- the first k lines are written, and with the others they are all
pub record Sofar (vertices : List ℕ) (counts : RoundCounts) (before : ℕ) (plugs : List ℤ) (entry : List ℕ) (k done : ℕ) (out : List ℕ) : Type 0 where
  pub within : k ≤ length plugs / 2
  pub written : List ℕ
  pub wrote : Wrote written entry done out
  pub few : done ≤ most_plug_line * k
  pub rest : (bs : List Box) → All Ordered bs → RoundPolygons bs vertices counts
      → written ++ plug_lines (before + k + 1) bs (plugs_of (drop (k * 2) plugs)) ≡ plug_lines (before + 1) bs (plugs_of plugs)

module _ (vertices : List ℕ) (counts : RoundCounts) (before : ℕ) (plugs : List ℤ) (entry : List ℕ) (room : RoomBehind before plugs entry) where
  -- no line is written
  pub sofar_none : Sofar vertices counts before plugs entry 0 0 entry
  sofar_none = record { within = omega arith; written = []; wrote = wrote_none entry; few = omega arith; rest = λ bs os f. ap (λ n. plug_lines (n + 1) bs (plugs_of plugs)) (add-zero before) }

  module _ {k done : ℕ} {out : List ℕ} (i : Sofar vertices counts before plugs entry k done out) where
    -- the buffer's length, and room for one line more
    pub sofar_length : length out ≡ length entry
    sofar_length = wrote_length i.wrote (omega (arith, i.wrote.counted, i.few, i.within, room.lines))

    module _ (h : k < length plugs / 2) where
      pub sofar_room : done + most_plug_line ≤ length out
      sofar_room = omega (arith, sofar_length, i.few, room.lines)

      pub sofar_part : length (decimal (before + k + 1)) + most_after_number ≤ length (take (length out - done) (drop done out))
      sofar_part = omega (arith, few_digits 3 (before + k + 1) (omega (arith, room.numbers)), ap length (tail_is done out), length-drop done out, sofar_room)

      -- a line more
      pub sofar_more : {reply : Result Word Refusal} {n : ℕ} {new : List ℕ} → WordBy vertices counts (plug_at plugs (k * 2)) reply
          → Wrote (plug_line (before + k + 1) (reply_of reply)) (take (length out - done) (drop done out)) n new
          → Sofar vertices counts before plugs entry (k + 1) (done + n) (take done out ++ (new ++ drop (length out - done) (drop done out)))
      unfolding plug_lines
      sofar_more {reply} {n} {new} w g =
          record {
            within = omega arith;
            written = i.written ++ plug_line (before + k + 1) (reply_of reply);
            wrote = then_wrote i.wrote (omega (arith, i.wrote.counted, i.few, room.lines)) g;
            few = omega (arith, i.few, g.counted, few_bytes (before + k + 1) (reply_of reply) (omega (arith, room.numbers)));
            rest = λ bs os f.
                append_assoc i.written (plug_line (before + k + 1) (reply_of reply)) (plug_lines (before + (k + 1) + 1) bs (plugs_of (drop ((k + 1) * 2) plugs)))
                ∙ ap (λ t. i.written ++ t)
                (ap (λ r. plug_line (before + k + 1) r ++ plug_lines (before + (k + 1) + 1) bs (plugs_of (drop ((k + 1) * 2) plugs))) (w.says bs os f)
                ∙ sym (next bs))
                ∙ i.rest bs os f;
          }
        where
          next : (bs : List Box)
              → plug_lines (before + k + 1) bs (plugs_of (drop (k * 2) plugs)) ≡ plug_line (before + k + 1) (plug_reply bs (plug_at plugs (k * 2))) ++ plug_lines (before + (k + 1) + 1) bs (plugs_of (drop ((k + 1) * 2) plugs))
          next bs =
              let e : k * 2 + 2 ≡ (k + 1) * 2 = omega arith in
              let n : before + k + 1 + 1 ≡ before + (k + 1) + 1 = omega arith in
              rw (← e, ← n) (ap (λ l. plug_lines (before + k + 1) bs (plugs_of l)) (drop_two (pos 0) plugs (k * 2) (omega arith)))

    -- none is left
    pub sofar_all : length plugs / 2 ≤ k → (bs : List Box) → All Ordered bs → RoundPolygons bs vertices counts → i.written ≡ plug_lines (before + 1) bs (plugs_of plugs)
    unfolding plug_lines
    sofar_all h bs os f =
        sym (append-nil i.written)
        ∙ sym (ap (λ ps. i.written ++ plug_lines (before + k + 1) bs ps) (no_plug (drop (k * 2) plugs) (omega (arith, length-drop (k * 2) plugs))))
        ∙ i.rest bs os f
