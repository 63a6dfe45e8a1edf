pub mod Passes
pub mod Keeping
