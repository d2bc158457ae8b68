pub mod Steps
pub mod Enough
pub mod Behind
pub mod Within
pub mod Accepted
pub mod Faults
pub mod Examples
