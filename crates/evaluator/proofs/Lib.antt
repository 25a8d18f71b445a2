pub mod Texts
pub mod Diaries
pub mod Fills
pub mod Ends
