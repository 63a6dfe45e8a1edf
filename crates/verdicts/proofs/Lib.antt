-- Answering: from what the corners tell each driver to the verdict.
pub mod Answering
