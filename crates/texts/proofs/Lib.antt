-- In the order of use:
--     Decimals   numbers in base ten
--     Writing    texts written one behind another
pub mod Decimals
pub mod Writing
