pub mod Numbers
pub mod Least
