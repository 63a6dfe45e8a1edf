-- Polygons of the corners of a box list:
--     Polygons   from keys of points to the keys of their polygon
--     Outer      the outer polygon from its two chains
--     Rounds     polygons one behind another
pub mod Polygons
pub mod Outer
pub mod Rounds
