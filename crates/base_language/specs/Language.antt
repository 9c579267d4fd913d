-- Grammars, and the meaning of their expressions.
pub mod Builtins
pub mod CharacterBounds
pub mod Expected
pub mod Expression
pub mod FurthestFailure
pub mod Grammar
pub mod KnownNames
pub mod LooseMeaning
pub mod Matching
pub mod Meaning
pub mod Places
pub mod Ran
pub mod State
pub mod Text
pub mod WellFormed
