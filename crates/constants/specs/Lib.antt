pub mod Constants
pub mod Sequences
