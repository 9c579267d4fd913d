pub mod MetaGrammar
pub mod Outcomes
pub mod Rules
pub mod Shape
