pub mod Pieces
pub mod RoundTrip
pub mod Claims
