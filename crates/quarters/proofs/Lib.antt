-- In the order of use:
--     Keeping    keys kept one by one, and in order
--     Joining    the two parts and the key between them, as one list
pub mod Keeping
pub mod Joining
