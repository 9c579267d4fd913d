pub mod Escaping
pub mod LineParts
pub mod Parts
pub mod Adding
pub mod Splitting
