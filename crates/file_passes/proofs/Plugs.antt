-- The pass that reads plugs: its invariant, and what each record found makes of it. Assumes nothing.
use mathlib.Core.Path.{◌≡◌, refl, sym, ◌∙◌, ap}
use mathlib.Core.Bool.{true}
use mathlib.Core.List.{List, [], ◌∷◌, ◌++◌, flat_map, append_assoc}
use Prim.Native.Nat.{ℕ, ◌+◌, ◌*◌, ◌≤◌, ◌<◌}
use native.Mathlib.Omega.{arith}
use lib.IntN.{ℤ}
use lib.ListN.{length, take, drop, length-append}
use lib.Seq.{take_at, drop_at}
use Rattle.std.specs.Prelude.{Ok, Err}
use Rattle.plane.specs.declared.Point.{Point}
use Rattle.rounds.specs.Refusals.{none}
use Rattle.rounds.specs.declared.Refusal.{Refusal}
use Rattle.formats.specs.Format.{mark_length, file_plug_at}
use Rattle.formats.specs.Content.{Content}
use Rattle.formats.specs.Promises.{coordinates}
use Rattle.file_records.specs.Records.{over}
use Rattle.file_records.specs.declared.Record.TheVariants.{Box, Plug, Note, End}
use Rattle.file_records.proofs.Over.{WroteAt, wrote_none, then_over}
use Rattle.formats.proofs.Bytes.{length_flat}
use Rattle.formats.proofs.Scan.{scan}
use Rattle.file_records.proofs.Records.{RecordFound, rest_is}
use Rattle.file_passes.specs.Steps.{ahead, PlugRoom, PlugsRead}
use Rattle.file_passes.proofs.Ahead.{ahead_is}

-- the numbers of a plug behind those of others
flat_more : (ps : List Point) (p : Point) → flat_map coordinates (ps ++ (p ∷ [])) ≡ flat_map coordinates ps ++ coordinates p
unfolding flat_map
flat_more [] p = refl
flat_more (q ∷ ps) p = ap (λ l. q.east ∷ q.north ∷ l) (flat_more ps p)

-- after so many plugs, with the rest to come
pub record PlugsSofar (file : List ℕ) (from : ℕ) (plugs₀ : List ℤ) (rest : Content) (k : ℕ) (plugs : List ℤ) : Type 0 where
  pub well_formed : rest.fault ≡ none
  pub taken : List Point
  pub so_many : length taken ≡ k
  pub is : taken ++ rest.plugs ≡ (ahead file from).plugs
  pub wrote : WroteAt plugs₀ 0 (flat_map coordinates taken) plugs

-- what is no plug changes nothing
passed_by : {file : List ℕ} {from : ℕ} {plugs₀ plugs : List ℤ} {rest rest' : Content} {k : ℕ} → PlugsSofar file from plugs₀ rest k plugs
    → rest.fault ≡ rest'.fault → rest.plugs ≡ rest'.plugs → PlugsSofar file from plugs₀ rest' k plugs
passed_by i e s =
    record { well_formed = sym e ∙ i.well_formed; taken = i.taken; so_many = i.so_many; is = ap (λ ps. i.taken ++ ps) (sym s) ∙ i.is; wrote = i.wrote }

module _ {file : List ℕ} {from count : ℕ} {plugs₀ : List ℤ} (r : PlugRoom file from count (length plugs₀)) where
  pub plugs_start : PlugsSofar file from plugs₀ (scan file from true) 0 plugs₀
  unfolding flat_map
  plugs_start =
      rw (ahead_is file from) (record { well_formed = r.well_formed; taken = []; so_many = refl; is = refl; wrote = wrote_none plugs₀ 0 (omega arith) })

  module _ {at k : ℕ} {plugs : List ℤ} (i : PlugsSofar file from plugs₀ (scan file at true) k plugs) where
    -- a plug, a note, a box
    pub plugs_plug : {next : ℕ} {plugs' : List ℤ} → k < count → RecordFound file at true (Ok (Plug next)) → plugs' ≡ over plugs (k * 2) (coordinates (file_plug_at file (at + mark_length)))
        → PlugsSofar file from plugs₀ (scan file next true) (k + 1) plugs'
    plugs_plug {next} h f e =
        let p = file_plug_at file (at + mark_length) in
        let s = rest_is f in
        let l = length_flat 2 coordinates (λ q. refl) i.taken in
        record {
          well_formed = sym (ap (λ held. held.fault) s) ∙ i.well_formed;
          taken = i.taken ++ (p ∷ []);
          so_many = length-append i.taken (p ∷ []) ∙ ap (λ n. n + 1) i.so_many;
          is = append_assoc i.taken (p ∷ []) (scan file next true).plugs ∙ ap (λ ps. i.taken ++ ps) (sym (ap (λ held. held.plugs) s)) ∙ i.is;
          wrote = rw (flat_more i.taken p) (then_over i.wrote (k * 2) (coordinates p) (omega (arith, l, i.so_many)) (omega (arith, r.for_plugs)) e);
        }

    pub plugs_note : {next : ℕ} → RecordFound file at true (Ok (Note next)) → PlugsSofar file from plugs₀ (scan file next true) k plugs
    plugs_note f = passed_by i (ap (λ held. held.fault) (rest_is f)) (ap (λ held. held.plugs) (rest_is f))

    pub plugs_box : {next : ℕ} → RecordFound file at true (Ok (Box next)) → PlugsSofar file from plugs₀ (scan file next true) k plugs
    plugs_box f = passed_by i (ap (λ held. held.fault) (rest_is f)) (ap (λ held. held.plugs) (rest_is f))

    -- there is no end before so many plugs, and no fault
    pub no_end : {A : Type 0} → k < count → RecordFound file at true (Ok End) → A
    no_end h f =
        absurd (omega (arith, r.enough, ap length i.is, length-append i.taken (scan file at true).plugs, i.so_many, ap (λ held. length held.plugs) (rest_is f)))

    pub no_fault : {A : Type 0} {x : Refusal} → RecordFound file at true (Err x) → A
    no_fault f = let e = (rw (rest_is f) at i).well_formed in absurd (cc)

    -- so many
    pub plugs_all : at ≤ length file → k ≡ count → PlugsRead file from count plugs₀ at plugs
    plugs_all h e =
        let a = ahead_is file at in
        record {
          plugs = i.wrote.is ∙ ap (λ ps. over plugs₀ 0 (flat_map coordinates ps)) (sym (take_at i.taken (scan file at true).plugs count (i.so_many ∙ e)) ∙ ap (take count) i.is);
          rest = record {
            within = h;
            well_formed = ap (λ held. held.fault) (sym a) ∙ i.well_formed;
            are = ap (λ held. held.plugs) (sym a) ∙ sym (drop_at i.taken (scan file at true).plugs count (i.so_many ∙ e)) ∙ ap (drop count) i.is;
          };
        }
