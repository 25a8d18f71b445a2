pub mod Finish
pub mod Reading
pub mod Refusals
pub mod Status
