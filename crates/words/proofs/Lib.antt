-- The word of a plug against the five polygons of some boxes:
--     Deciding   from what each polygon says of the plug to the word
--     Tried      the four corners, tried one after another
pub mod Deciding
pub mod Tried
