pub mod Buffer
pub mod Number
pub mod Put
pub mod Split
pub mod Words
