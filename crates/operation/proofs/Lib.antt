pub mod Operands
pub mod Contents
pub mod Fitting
