pub mod Diagnosing
pub mod Ends
pub mod Forms
pub mod Improving
pub mod Joining
pub mod Listing
pub mod Parts
