pub mod Faults
pub mod Cases
pub mod Sites
pub mod Promises
pub mod WordsNeeded
pub mod Example
