-- A corner of a box of a list by the box's place, and by a direction:
--     Places      the corner at a place
--     Rightmost   the corner that is furthest right of a way
pub mod Places
pub mod Rightmost
