pub mod ListTurns
pub mod Stacked
