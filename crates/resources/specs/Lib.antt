pub mod Coding
pub mod Looking
pub mod Serving
