pub mod Codes
pub mod Kinds
pub mod Sections
