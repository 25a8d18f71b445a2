pub mod Prefixes
pub mod Histories
