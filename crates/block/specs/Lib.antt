pub mod Block
pub mod Checked
