pub mod Ways
pub mod Listings
pub mod Standings
