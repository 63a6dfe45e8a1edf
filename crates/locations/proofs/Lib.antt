-- Why the answers are right, over points:
--     Vertices    the vertices of a polygon by their indices: apart, with every point right of each side or on it, no three in line
--     Segments    one vertex or two: on the segment between them, or off
--     Fans        three vertices or more: off by a side, on a side, or strictly within
--     Exclusive   the three answers exclude each other
pub mod Vertices
pub mod Segments
pub mod Fans
pub mod Exclusive
