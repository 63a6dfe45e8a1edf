-- Boxes whose corners leave what is known of the points so far as it is, in the order of use:
--     Passing   what the cone and the plug that is met say of the points stays
--     Keeping   the cone itself stays, and both together
pub mod Passing
pub mod Keeping
