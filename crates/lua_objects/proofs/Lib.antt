pub mod Rooms
pub mod NewObjects
pub mod Nexts
pub mod Captures
pub mod FieldTurns
pub mod Stacks
pub mod Parts
