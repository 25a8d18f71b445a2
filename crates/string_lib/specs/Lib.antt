pub mod Given
pub mod Several
pub mod String
pub mod Texts
pub mod View
