pub mod Names
pub mod NameSets
pub mod GrammarNames
pub mod Standing
pub mod Messages
pub mod Builtins
pub mod CharSets
pub mod NameFindings
