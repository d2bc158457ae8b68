pub mod Search
pub mod Cases
pub mod Order
