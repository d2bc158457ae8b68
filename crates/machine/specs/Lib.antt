pub mod Isa
pub mod Bits
pub mod State
pub mod Memory
pub mod Execute
pub mod Encoders
pub mod Machine
