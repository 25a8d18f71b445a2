pub mod Targets
pub mod Assigned
