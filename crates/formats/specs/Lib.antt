pub mod Format
pub mod Content
pub mod Promises
