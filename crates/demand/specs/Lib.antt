pub mod Outside
pub mod Premises
pub mod Claim
pub mod Next
