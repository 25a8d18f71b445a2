pub mod ChainLemmas
pub mod Examples
pub mod TableLemmas
pub mod TargetLemmas
pub mod TextOrder
