-- Theorems about rounds, in the order of use, each file over those above it:
--     Numbers    the numbers of causes
--     Rows       box by box and plug by plug, as loops over a flat list walk it
--     Exits      what a call answers where a `?` turns it back
--     Accepted   what a list that no cause turns back has: a box, and all edges in order and in the span
--     Corners    the corner reduction: inside, by the four corner lists; outside, by a direction that has all corners behind it
--     Entries    balanced corners, as entries of box, corner and weight, give the second driver a pick
--     Words      what shows each word
--     Total      every round and plug has exactly one word
--     Checks     tests that compute, each with what it shows
pub mod Numbers
pub mod Rows
pub mod Accepted
pub mod Corners
pub mod Entries
pub mod Words
pub mod Total
pub mod Checks
pub mod Exits
