pub mod Building
pub mod TokenEventLists
pub mod Expectations
pub mod Parsing
pub mod WithRules
pub mod Writing
