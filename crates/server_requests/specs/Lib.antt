pub mod Answers
pub mod Around
pub mod Calls
pub mod Completions
pub mod Locations
pub mod Names
pub mod Refusals
pub mod Shown
