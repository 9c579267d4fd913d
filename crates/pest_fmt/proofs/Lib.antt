pub mod Gaining
pub mod Running
