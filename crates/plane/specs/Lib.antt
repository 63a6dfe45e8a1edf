pub mod Members
pub mod Points
pub mod Vectors
pub mod Polygons
pub mod Props
