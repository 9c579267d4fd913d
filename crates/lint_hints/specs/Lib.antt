pub mod Hints
pub mod Properties
