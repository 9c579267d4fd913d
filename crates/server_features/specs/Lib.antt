pub mod Actions
pub mod Diagnoses
pub mod Diagnostics
pub mod Earlier
pub mod Facts
pub mod Formatting
pub mod Remedies
pub mod Renames
