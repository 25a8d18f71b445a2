pub mod BestLemmas
pub mod ClosingLemmas
mod Examples
pub mod FoundLemmas
pub mod Parts
pub mod ReadingLemmas
pub mod Runs
