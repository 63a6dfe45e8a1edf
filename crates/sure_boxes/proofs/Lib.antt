-- Boxes in which every plug is inside:
--     Sureness   from the words at the four corners to those of all plugs in the box
--     Metres     coordinates as the machine holds them
pub mod Sureness
pub mod Metres
