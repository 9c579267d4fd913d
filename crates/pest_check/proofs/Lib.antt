pub mod Gained
pub mod Reported
