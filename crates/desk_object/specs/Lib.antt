pub mod Endings
pub mod Meaning
pub mod History
