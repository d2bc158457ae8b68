pub mod Laws
pub mod Fitting
