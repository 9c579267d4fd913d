pub mod Heads
pub mod Lengths
pub mod Reading
pub mod Serving
mod Announcing
mod Answering
mod Handling
mod Opening
mod Phases
