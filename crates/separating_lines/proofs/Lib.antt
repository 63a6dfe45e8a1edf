-- A line that separates the plug from all boxes, by the corner of each that is furthest left of it.
pub mod Separating
