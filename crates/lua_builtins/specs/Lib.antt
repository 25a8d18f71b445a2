pub mod Gives
pub mod Apart
pub mod Asking
pub mod Parts
