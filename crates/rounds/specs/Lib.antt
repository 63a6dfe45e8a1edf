pub mod Boxes
pub mod Picks
pub mod Words
pub mod Reasons
pub mod Refusals
pub mod Replies
pub mod Names
