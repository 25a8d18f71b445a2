pub mod ArgumentLemmas
pub mod AskLemmas
pub mod PieceLemmas
