pub mod Tests
pub mod Growing
pub mod Ranks
pub mod Sweeps
pub mod InOrder
pub mod Promises
