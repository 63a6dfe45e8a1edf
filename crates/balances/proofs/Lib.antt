-- Answering: what a cone and a view tell the second driver.
pub mod Answering
