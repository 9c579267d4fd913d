pub mod Format
pub mod Fronts
pub mod Indices
pub mod Nodes
pub mod Reading
pub mod Tokens
