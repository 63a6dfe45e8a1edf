-- In the order of use:
--     Pieces     the pieces of the plugs' lines, one behind another
--     Example    the example of docs/SCOPE.md 8.3
pub mod Pieces
pub mod Example
