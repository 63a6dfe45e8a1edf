-- What a buyer reads, each demand's statement over the public calls' own promises:
--     Polygons     demand 2: the polygons, and that verdicts follow them
--     RoundTrips   demand 2: a round written is read back the same
--     Picks        demand 3: what each word says of every pick, and the picks that reasons describe
--     Answers      demand 3: records and the C structs answer as the flat list's call does, reasons included
--     Refinement   boxes that become smaller: what is inside or outside stays so
--     Stars        the starred examples, as one joint fact
pub mod Polygons
pub mod RoundTrips
pub mod Picks
pub mod Answers
pub mod Refinement
pub mod Stars
