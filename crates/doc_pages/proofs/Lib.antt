pub mod Asking
pub mod Gaining
pub mod Indexing
pub mod Linking
pub mod Starting
pub mod Warned
