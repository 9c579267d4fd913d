pub mod Documents
pub mod Links
pub mod Modifiers
pub mod Nullability
pub mod Starts
pub mod Warnings
