pub mod Encodable
pub mod Lines
pub mod Ready
