pub mod LeastLemmas
pub mod Found
pub mod FlagLists
