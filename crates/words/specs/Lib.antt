pub mod Answers
pub mod Signed
