pub mod Lexing
pub mod Names
pub mod Nesting
mod Reserved
pub mod Runs
