pub mod Multiples
pub mod Sizes
