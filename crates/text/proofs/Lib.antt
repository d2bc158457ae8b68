mod Decimal
mod Digits
mod Eight
pub mod Placed
mod Prefixes
mod Rows
mod Search
mod Sets
pub mod Signs
