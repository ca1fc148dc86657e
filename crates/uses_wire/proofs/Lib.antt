pub mod ListLemmas
pub mod MessageLemmas
