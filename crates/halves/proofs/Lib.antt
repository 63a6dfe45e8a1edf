-- In the order of use:
--     Halving     keys split by a line
--     Reordering  the first numbers of a list, sorted
pub mod Halving
pub mod Reordering
