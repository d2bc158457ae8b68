pub mod Lines
pub mod Data
pub mod Abs
pub mod Relation
pub mod Fits
