pub mod Acting
pub mod Finding
pub mod Knowing
pub mod Staying
