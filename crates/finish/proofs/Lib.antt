pub mod Signed
pub mod Cases
pub mod Track
pub mod Walk
pub mod Join
