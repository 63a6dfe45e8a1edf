-- The corners of a box list as keys:
--     Filling    keys that a loop writes, box by box, and the list that they then are
--     Boxes      the corners of a box, by their keys
--     Ends       the least key of all corners and the greatest
--     Chains     the keys that a chain of all corners is made of
pub mod Filling
pub mod Boxes
pub mod Ends
pub mod Chains
