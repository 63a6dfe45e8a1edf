pub mod Supports
pub mod Supporting
