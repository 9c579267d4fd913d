pub mod LeafTokens
pub mod Ordering
pub mod Readings
pub mod SimilarReading
pub mod SimilarTrees
pub mod Unchanged
pub mod WhiteGaps
