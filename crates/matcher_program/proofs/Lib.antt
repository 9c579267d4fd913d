pub mod Decoding
pub mod Compiling
pub mod Indexing
pub mod Forming
pub mod Refusing
pub mod Gathering
pub mod FittingSets
