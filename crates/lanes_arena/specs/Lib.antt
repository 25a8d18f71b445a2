pub mod Arena
pub mod formers
pub mod LendsValue
pub mod Names
