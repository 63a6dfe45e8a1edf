-- Laws of hulls, in the order of use, each file over those above it. Other crates may cite Outlines for the points of a list of keys by index; what a polygon
-- tells is read by plane (Reading, Indexed).
--     Fan        the vertices of a chain, seen from its first
--     Mirroring  keys reflected through the datum
--     Halving    the upper chain of a half of the keys is that of all
--     Parting    the two parts of keys, in order, as the chains take them
--     Listing    the two chains make a closed listing, by index
--     Outlines   a closed listing is an outline of the keys' points
--     Made       the polygon of a list of keys, from what the calls promise
pub mod Fan
pub mod Mirroring
pub mod Halving
pub mod Parting
pub mod Listing
pub mod Outlines
pub mod Made
