pub mod Admits
pub mod Bodies
pub mod Leaving
pub mod Promises
