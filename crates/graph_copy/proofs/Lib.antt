pub mod PathLemmas
pub mod SearchLemmas
pub mod NumberingLemmas
pub mod WalkLemmas
pub mod PackingLemmas
pub mod Rows
pub mod CallerLemmas
pub mod IsomorphicLemmas
