-- The word of a plug against the polygons of some boxes, or its refusal:
--     Holding    a box that holds a point
pub mod Holding
