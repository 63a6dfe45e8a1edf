pub mod Separating
