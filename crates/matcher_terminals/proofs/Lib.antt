pub mod Trying
pub mod Exposing
pub mod Loops
