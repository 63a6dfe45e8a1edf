pub mod Areas
pub mod Steps
