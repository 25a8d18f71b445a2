pub mod Taken
pub mod Banks
