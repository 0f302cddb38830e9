pub mod Passed
pub mod Landing
pub mod Jumps
pub mod Jumping
pub mod Searching
pub mod Trials
pub mod Serving
pub mod Promises
