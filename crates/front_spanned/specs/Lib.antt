pub mod Spanned
pub mod Nodes
pub mod NodeEquality
pub mod Walk
pub mod Erasure
pub mod Shapes
pub mod Erasing
pub mod Copies
