pub mod NewTask
pub mod Promises
