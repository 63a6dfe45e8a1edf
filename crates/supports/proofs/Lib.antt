-- Answering: what a cone tells the first driver, and the four corners of every box.
pub mod Answering
