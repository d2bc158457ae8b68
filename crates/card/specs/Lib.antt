pub mod Kinds
pub mod Word
pub mod Card
pub mod Memory
pub mod Starred
pub mod Step
pub mod Run
