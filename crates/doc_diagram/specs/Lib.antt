pub mod Labels
pub mod Marks
pub mod Rails
pub mod Spaces
pub mod Steps
