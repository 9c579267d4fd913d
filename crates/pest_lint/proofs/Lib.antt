pub mod Gaining
pub mod Keeping
pub mod Logging
pub mod Printing
pub mod Telling
