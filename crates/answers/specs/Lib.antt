pub mod Translation
pub mod Sites
pub mod Contract
pub mod Claims
pub mod WordsNeeded
