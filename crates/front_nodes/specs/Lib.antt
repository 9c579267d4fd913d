pub mod Forests
pub mod Nodes
pub mod Writing
