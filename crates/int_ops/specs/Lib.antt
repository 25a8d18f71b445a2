pub mod Wrapping
pub mod Reading
pub mod View
