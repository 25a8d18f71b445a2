pub mod ParamTurns
pub mod BodyEnds
pub mod CalleeTurns
pub mod CallTurns
