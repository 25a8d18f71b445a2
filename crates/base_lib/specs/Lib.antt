pub mod Base
pub mod Functions
pub mod Given
pub mod Open
pub mod Shown
