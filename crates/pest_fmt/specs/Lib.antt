pub mod Files
pub mod Messages
pub mod Outcomes
pub mod Processing
pub mod Sources
