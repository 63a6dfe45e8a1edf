-- The polygon calls' replies as numbers: what each case is given as, and what a struct means. Definitions only.
use Rattle.std.specs.Prelude.{Result, Ok, Err, ℕ}
use Rattle.polygons.specs.declared.VertexCounts.{VertexCounts}
use Rattle.rounds.specs.declared.Refusal.{Refusal}
use Rattle.rounds.specs.Refusals.{number_of}
use Rattle.c_answers.specs.Answers.{unless_refused}
use Rattle.c_areas.specs.declared.OuterAnswer.{OuterAnswer}
use Rattle.c_areas.specs.declared.CornersAnswer.{CornersAnswer}

-- the struct for each case of the outer polygon's reply
abbrev pub outer_struct : Result ℕ Refusal → OuterAnswer
outer_struct (Ok count) = record { refused = 0; place = 0; vertices = count }
outer_struct (Err r) = record { refused = number_of r.cause; place = r.place; vertices = 0 }

-- the reply that a struct means
abbrev pub outer_meant : OuterAnswer → Result ℕ Refusal
outer_meant a = unless_refused a.refused a.place a.vertices

-- the struct for each case of the corner polygons' reply
abbrev pub corners_struct : Result VertexCounts Refusal → CornersAnswer
corners_struct (Ok n) =
    record { refused = 0; place = 0; southwest = n.southwest; southeast = n.southeast; northeast = n.northeast; northwest = n.northwest }
corners_struct (Err r) =
    record { refused = number_of r.cause; place = r.place; southwest = 0; southeast = 0; northeast = 0; northwest = 0 }

-- the vertex counts that a struct means
abbrev pub counts_meant : CornersAnswer → VertexCounts
counts_meant a = record { southwest = a.southwest; southeast = a.southeast; northeast = a.northeast; northwest = a.northwest }

-- the reply that a struct means
abbrev pub corners_meant : CornersAnswer → Result VertexCounts Refusal
corners_meant a = unless_refused a.refused a.place (counts_meant a)
