-- Listing:  the two calls' answers, by equations.
-- Promised: the promises with the fault first, which follow.
pub mod Listing
pub mod Promised
