pub mod Commit
pub mod Example
pub mod Groups
pub mod Lookups
pub mod Latest
pub mod Recency
pub mod SameWords
pub mod Targets
