-- The cone of points round a plug:
--     Turns       signed areas and dot products of three and four vectors from the plug
--     Widening    what the cone of one more point says, case by case
--     Wider       what it says, of the cone that the code finds
--     FirstRay    no point is right of the first ray, and none ahead of the direction square to it
pub mod Turns
pub mod Widening
pub mod Wider
pub mod FirstRay
