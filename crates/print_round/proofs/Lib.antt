-- What was printed so far.
pub mod Printed
