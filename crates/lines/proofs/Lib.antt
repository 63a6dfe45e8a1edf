-- Laws of lines:
--     Reading   a line, and a key's side of it, as the machine reads them
pub mod Reading
