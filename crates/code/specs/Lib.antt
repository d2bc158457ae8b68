pub mod Items
pub mod Emit
pub mod Tree
pub mod Machine
pub mod Calls
pub mod Walk
