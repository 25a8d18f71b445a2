pub mod Bytes
pub mod Spellings
pub mod Tokens
pub mod Reading
pub mod View
pub mod Faults
