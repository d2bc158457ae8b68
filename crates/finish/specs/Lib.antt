pub mod Finish
pub mod Whole
