pub mod InRange
pub mod Stepping
pub mod Rounds
pub mod Items
pub mod Ahead
pub mod Agreeing
pub mod ByName
pub mod Promises
