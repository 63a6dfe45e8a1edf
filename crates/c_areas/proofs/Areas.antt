-- The structs of the polygon calls mean the replies that they are given for. Assumes nothing.
use Rattle.std.specs.Prelude.{Result, Ok, Err, ℕ, ◌≡◌, refl}
use Rattle.polygons.specs.declared.VertexCounts.{VertexCounts}
use Rattle.rounds.specs.declared.Refusal.{Refusal}
use Rattle.c_areas.specs.Areas.{outer_struct, outer_meant, corners_struct, corners_meant}
use Rattle.c_answers.proofs.Answering.{refused_back}

pub outer_back : (reply : Result ℕ Refusal) → outer_meant (outer_struct reply) ≡ reply
outer_back (Ok count) = refl
outer_back (Err r) = refused_back r _

pub corners_back : (reply : Result VertexCounts Refusal) → corners_meant (corners_struct reply) ≡ reply
corners_back (Ok counts) = refl
corners_back (Err r) = refused_back r _
