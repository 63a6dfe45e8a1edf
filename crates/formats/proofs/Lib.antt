-- Theorems about the round file, each file over those above it:
--     Faults       what lists with no fault have
--     Replies      which fault stands behind a reply
--     Marks        the marks of the kinds of record
--     Bytes        the lengths of numbers and records as bytes
--     Scan         what a file holds, record by record
--     ReadBack     what the writer gives holds the boxes and plugs that it was given
--     WriteBack    a well-formed file without notes is what the writer gives for its boxes and plugs
--     FlatLists    boxes and plugs as flat lists and back; the length of a file
pub mod Faults
pub mod Replies
pub mod Marks
pub mod Bytes
pub mod Scan
pub mod ReadBack
pub mod WriteBack
pub mod FlatLists
