pub mod Building
pub mod TokenEvents
pub mod ExpectedRules
pub mod Nodes
pub mod Parses
pub mod Writing
