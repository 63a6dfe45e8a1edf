-- In the order of use:
--     Texts      the text of a file, by what turns it back
--     Pieces     one piece of the plugs' lines
pub mod Texts
pub mod Pieces
