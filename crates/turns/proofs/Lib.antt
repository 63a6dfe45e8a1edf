-- Laws of keys, for callers:
--     Coordinates   a coordinate as a part of a key, and back; a key's point is in the span
--     Order         the order of keys is that of their points; a point has one key; the vector to a later point points up
--     Parts         the parts of a key, and how great a key is
--     Listed        what is known of each number of a list of keys
--     Reflection    a key reflected through the datum
--     Sums          the packed sum and difference of a key's parts tell the key
--     Bounds        the sizes of signed areas, dot products and outward directions, and how the machine holds them
pub mod Coordinates
pub mod Order
pub mod Parts
pub mod Listed
pub mod Reflection
pub mod Sums
pub mod Bounds
