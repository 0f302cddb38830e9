pub mod Samples
pub mod Impostors
pub mod Told
