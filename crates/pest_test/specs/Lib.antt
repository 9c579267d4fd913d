pub mod Agreement
pub mod Grammars
pub mod Updates
pub mod Verdicts
pub mod Walking
