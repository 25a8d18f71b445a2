pub mod Asks
pub mod Pieces
