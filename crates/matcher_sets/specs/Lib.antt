pub mod Modes
pub mod Forms
pub mod Ranges
pub mod Differences
pub mod FirstSets
