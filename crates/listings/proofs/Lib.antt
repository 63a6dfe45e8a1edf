-- Vertices written into a lent buffer:
--     Writing   numbers that a loop writes over the front of a buffer, and one writer behind another
pub mod Writing
