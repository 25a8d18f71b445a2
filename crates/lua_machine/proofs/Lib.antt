pub mod Windows
pub mod Frames
pub mod Leads
pub mod Levels
pub mod LeafLemmas
pub mod Failures
pub mod Places
pub mod Pushes
