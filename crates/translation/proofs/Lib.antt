pub mod WordsNeeded
pub mod Answers
