pub mod NodeLemmas
pub mod Writing
