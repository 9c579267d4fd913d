pub mod Diagnosis
pub mod Differences
pub mod Fixing
pub mod Messages
