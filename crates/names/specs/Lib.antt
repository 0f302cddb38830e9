pub mod Named
pub mod Pointers
