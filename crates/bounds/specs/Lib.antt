pub mod Sound
pub mod Whole
