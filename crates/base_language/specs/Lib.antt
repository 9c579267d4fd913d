pub mod Language
pub mod Pieces
pub mod Rewritings
