pub mod Views
pub mod Moves
pub mod Appending
pub mod Numbering
pub mod Seats
pub mod Answering
pub mod Knowledge
pub mod Callers
