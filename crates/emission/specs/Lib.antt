pub mod Total
pub mod Gen
pub mod Emits
pub mod Sites
