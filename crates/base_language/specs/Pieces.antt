-- Pieces of a text, trees over them, and errors about them.
pub mod Comparing
pub mod Faults
pub mod LineColumn
pub mod Landmarks
pub mod MetaRules
pub mod NamedTrees
pub mod Pairs
pub mod PrintedError
pub mod Saying
pub mod Span
pub mod Survey
pub mod TokenTrees
pub mod TreeViews
