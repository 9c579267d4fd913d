pub mod Bytes
pub mod Lending
pub mod Strokes
pub mod Walking
