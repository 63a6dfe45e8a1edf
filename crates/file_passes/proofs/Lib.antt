-- The proofs of the passes over a file, each file over those above it:
--     Judging      the pass that judges the form and counts
--     Ahead        what stands ahead of an offset, behind all boxes
--     Boxes        the pass that reads the boxes
--     Plugs        the pass that reads plugs
pub mod Judging
pub mod Ahead
pub mod Boxes
pub mod Plugs
