pub mod Conditions
pub mod Ranges
