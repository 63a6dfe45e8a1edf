-- What the passes over a file find and leave. Definitions only.
use Rattle.std.specs.Prelude.{Result, ℕ, suc, ◌-◌, ◌*◌, ◌≤◌, true, ◌≡◌, ℤ, length, take, drop}
use mathlib.Core.List.{List, flat_map}
use Rattle.plane.specs.declared.Point.{Point}
use Rattle.rounds.specs.Refusals.{none}
use Rattle.rounds.specs.declared.Refusal.{Refusal}
use Rattle.formats.specs.Content.{Content, read_from, content_of}
use Rattle.formats.specs.Promises.{edges, coordinates, counts_of}
use Rattle.formats.specs.declared.Counts.{Counts}
use Rattle.file_records.specs.Records.{refused_or, over}

-- ---- the pass that judges

-- what the pass that judges says of a file: its fault of form, or both counts
unfoldable pub judgement : List ℕ → Result Counts Refusal
judgement file = refused_or (content_of file).fault (counts_of (content_of file))

-- ---- the passes that read

-- what stands from an offset on, where no box may stand
unfoldable pub ahead : List ℕ → ℕ → Content
ahead file at = read_from (suc (length file - at)) file at true

-- from an offset on there are these plugs, and no fault
pub record PlugsFrom (file : List ℕ) (at : ℕ) (plugs : List Point) : Type 0 where
  pub within : at ≤ length file
  pub well_formed : (ahead file at).fault ≡ none
  pub are : (ahead file at).plugs ≡ plugs

-- a well_formed file's boxes have room in a buffer of a length
pub record BoxRoom (held : Content) (boxes : ℕ) : Type 0 where
  pub well_formed : held.fault ≡ none
  pub for_boxes : 4 * length held.boxes ≤ boxes

-- a file's boxes stand over the front of a buffer, and its plugs are ahead of an offset
pub record BoxesRead (file : List ℕ) (entry : List ℤ) (at : ℕ) (exit : List ℤ) : Type 0 where
  pub boxes : exit ≡ over entry 0 (flat_map edges (content_of file).boxes)
  pub plugs : PlugsFrom file at (content_of file).plugs

-- so many plugs are ahead of an offset, and have room in a buffer of a length
pub record PlugRoom (file : List ℕ) (from count plugs : ℕ) : Type 0 where
  pub within : from ≤ length file
  pub well_formed : (ahead file from).fault ≡ none
  pub enough : count ≤ length (ahead file from).plugs
  pub for_plugs : 2 * count ≤ plugs

-- so many plugs from an offset on stand over the front of a buffer, and the others are ahead of the next offset
pub record PlugsRead (file : List ℕ) (from count : ℕ) (entry : List ℤ) (at : ℕ) (exit : List ℤ) : Type 0 where
  pub plugs : exit ≡ over entry 0 (flat_map coordinates (take count (ahead file from).plugs))
  pub rest : PlugsFrom file at (drop count (ahead file from).plugs)
