-- One plug and the corners of boxes round it:
--     Naming      the corner of a box by its place
--     Viewing     what the view of one more point says, and of the corners of every box
--     Looking     the view of the corners of every box, step by step
pub mod Naming
pub mod Viewing
pub mod Looking
