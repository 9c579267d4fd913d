pub mod Floats
pub mod Locating
pub mod Placing
pub mod Values
