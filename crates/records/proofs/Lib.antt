-- Boxes as records, in the order of use:
--     Copying   the records' edges, copied one record after another into an array
--     Faults    what turns a list of records back: never the list's length
pub mod Copying
pub mod Faults
