-- In the order of use:
--     Turning    turns at keys in order; a key in line with two others, and between them in order, lies between them
--     Covering   keys that are not above others
--     Chaining   how one more key changes an upper chain
--     Framing    keys after a first and before a last
pub mod Turning
pub mod Covering
pub mod Chaining
pub mod Framing
