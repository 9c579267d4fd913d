pub mod Escaping
pub mod Inert
pub mod Leading
