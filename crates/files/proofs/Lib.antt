-- The proofs of the reader and the writer, each file over those above it:
--     Buffers      a lent buffer that is long enough
--     Reader       the reader's promise at each return
--     Written      the writer's promise at each return
pub mod Buffers
pub mod Reader
pub mod Written
