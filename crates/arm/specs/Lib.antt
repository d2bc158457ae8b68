pub mod Fields
pub mod Instr
pub mod Decode
pub mod Claims
