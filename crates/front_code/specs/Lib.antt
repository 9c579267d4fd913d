pub mod Layouts
pub mod Numbers
pub mod Codes
pub mod Runs
