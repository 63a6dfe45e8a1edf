-- Behind: polygons written one behind another.
pub mod Behind
