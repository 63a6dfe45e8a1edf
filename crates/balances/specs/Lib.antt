pub mod Balances
pub mod Balancing
