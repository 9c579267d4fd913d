pub mod Escapes
pub mod Excerpts
pub mod Folders
pub mod Lines
pub mod Messages
pub mod Statuses
pub mod Arguments
pub mod Ends
