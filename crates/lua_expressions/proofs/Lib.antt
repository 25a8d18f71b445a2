pub mod CallTurns
pub mod FormTurns
