-- In the order of use:
--     Accepting    between a reply and the meaning of its word
--     Polygons, RoundTrips, Picks, Answers, Refinement, Stars   each statement of specs/
pub mod Accepting
pub mod Polygons
pub mod RoundTrips
pub mod Picks
pub mod Answers
pub mod Refinement
pub mod Stars
