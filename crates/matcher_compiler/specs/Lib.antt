pub mod Names
pub mod Sets
pub mod Plans
pub mod Columns
pub mod Compiled
pub mod Exact
pub mod Extents
