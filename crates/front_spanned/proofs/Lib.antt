pub mod Meeting
pub mod NodeTests
pub mod Walks
pub mod Sameness
pub mod Unplaced
pub mod Places
