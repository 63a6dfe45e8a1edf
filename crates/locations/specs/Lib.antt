pub mod Places
pub mod Search
