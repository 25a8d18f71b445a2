pub mod RefusalLemmas
pub mod Finishes
