pub mod Compiled
pub mod Answers
pub mod Diagnostics
pub mod Handing
pub mod Outcomes
pub mod Refusals
pub mod PathCalls
