pub mod Outlines
pub mod RoundPolygons
