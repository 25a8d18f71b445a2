pub mod Bodies
pub mod Callees
