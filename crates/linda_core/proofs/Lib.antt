pub mod ContentLemmas
pub mod KeyLemmas
pub mod ReadyLemmas
pub mod OnceLemmas
pub mod RoomLemmas
pub mod LoopLemmas
pub mod BankLemmas
pub mod FifoLemmas
pub mod Callers
mod Rows
