-- Rewritings that the optimizer may apply to rules.
pub mod Equality
pub mod Erased
pub mod Listing
pub mod Replacing
pub mod Rewriting
pub mod Wrapping
