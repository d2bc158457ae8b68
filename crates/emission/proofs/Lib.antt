pub mod After
pub mod Writes
pub mod Registers
pub mod Slots
pub mod Carried
pub mod Position
