pub mod Plain
pub mod Steps
pub mod Runs
pub mod Calls
