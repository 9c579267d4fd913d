pub mod InText
pub mod Names
pub mod Places
pub mod Trees
pub mod Characters
pub mod Ascii
pub mod BuiltinLemmas
pub mod Told
