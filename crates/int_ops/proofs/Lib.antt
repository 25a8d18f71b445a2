pub mod Wraps
pub mod Floors
pub mod Trims
pub mod Numbers
pub mod Signs
