-- The proofs of a file's records, each file over those above it:
--     Records      the record at an offset: its kind, what follows, and where the next one begins
--     Over         writes to a buffer, one after another
--     Numbers      marks and numbers as bytes, and a part of a buffer that was written over
--     Writer       the writer's records and loops
pub mod Records
pub mod Over
pub mod Numbers
pub mod Writer
