pub mod Fop
