pub mod Changes
pub mod Judged
pub mod Looked
pub mod Bodies
pub mod Promises
