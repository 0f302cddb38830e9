pub mod Sizes
pub mod Spans
