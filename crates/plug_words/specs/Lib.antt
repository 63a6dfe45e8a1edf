pub mod Plugs
pub mod Shapes
