pub mod Lowest
pub mod Members
pub mod Saved
