pub mod Behind
pub mod Done
