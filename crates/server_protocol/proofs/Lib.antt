mod Zips
pub mod Counting
pub mod Sequences
