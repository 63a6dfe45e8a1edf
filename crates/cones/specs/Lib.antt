pub mod Cones
pub mod Wider
