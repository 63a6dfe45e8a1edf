pub mod Keys
pub mod Turns
pub mod Reflection
pub mod Sums
