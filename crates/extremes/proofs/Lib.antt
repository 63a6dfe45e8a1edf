-- Laws of extreme keys:
--     Dropping   keys that are dropped before sorting
--     Extreme    the least and the greatest of some keys are keys
pub mod Dropping
pub mod Extreme
