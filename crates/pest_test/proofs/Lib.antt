pub mod Following
pub mod Soundness
pub mod Zipping
