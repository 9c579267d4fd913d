pub mod Arguments
pub mod Messages
pub mod Outcomes
pub mod Refusals
