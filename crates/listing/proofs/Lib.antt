pub mod Room
pub mod Sites
