pub mod Waiting
pub mod Posts
pub mod Sound
pub mod Steps
pub mod Places
pub mod Staying
