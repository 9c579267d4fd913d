pub mod Parts
pub mod Listings
