pub mod Stored
pub mod Kept
pub mod Changes
