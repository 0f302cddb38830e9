pub mod Shown
pub mod Listed
pub mod Promises
