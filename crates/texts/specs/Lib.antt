pub mod Decimals
pub mod Text
