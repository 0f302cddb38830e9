pub mod Chains
pub mod Found
pub mod Reaching
pub mod Mothers
pub mod Walks
pub mod Freeing
pub mod Promises
