pub mod Found
pub mod Bars
pub mod OneOf
pub mod Tries
pub mod Jumping
