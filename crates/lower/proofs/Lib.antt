pub mod Laws
pub mod Arms
