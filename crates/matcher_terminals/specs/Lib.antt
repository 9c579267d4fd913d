pub mod Exposed
pub mod Frames
pub mod Tried
pub mod Labels
