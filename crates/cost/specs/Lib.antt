pub mod Layouts
pub mod Searches
