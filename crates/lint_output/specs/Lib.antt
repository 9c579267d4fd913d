pub mod Annotations
pub mod Json
pub mod Locations
pub mod Prints
pub mod Sarif
pub mod Visible
