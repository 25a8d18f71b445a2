pub mod Joining
pub mod Metamethods
pub mod Setting
pub mod Turns
