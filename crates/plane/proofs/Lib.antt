-- The theorems of plane geometry, in the order of use, each file over those above it:
--     Lists          every element, membership, by index
--     Twins          the definitions on the solvers' expressions
--     Angular        the angular lemma: among vectors that point up in the order of points, turning right is transitive
--     Combos         weighted sums: combinations of members are added; strictly separated vectors do not balance
--     Sides          a side with every point right of it or on it supports, and separates from a point strictly left of it
--     Winding        a point strictly right of every side is strictly inside: no direction supports
--     Fan            the triangle of the fan from the first vertex in which a point lies
--     Alternative    every list of vectors is balanced or strictly separated by a direction
--     Supporting     whether a direction supports a list of vectors is decided
--     PolygonFacts   the closed listing with strict turns is the polygon; one vertex, and two
--     Outline        what a hull's making promises, from which the polygon follows
--     Reading        and back: the polygon's definition gives the outline
--     Dropping       points with kept points in all four quadrants round them may be dropped
--     Unique         a polygon's listing is one but for its start; with a westmost start there is one
--     Others         extreme: not in the hull of all other points at once
--     Indexed        listings by index, for loops over slices
pub mod Lists
pub mod Twins
pub mod Angular
pub mod Combos
pub mod Sides
pub mod Winding
pub mod Fan
pub mod Alternative
pub mod Supporting
pub mod PolygonFacts
pub mod Outline
pub mod Reading
pub mod Dropping
pub mod Unique
pub mod Others
pub mod Indexed
