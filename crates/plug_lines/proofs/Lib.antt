-- In the order of use:
--     Lines      the plugs' lines
pub mod Lines
