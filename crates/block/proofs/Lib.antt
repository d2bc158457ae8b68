pub mod Groups
pub mod Example
