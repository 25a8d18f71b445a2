pub mod Comparisons
pub mod Puts
pub mod Joins
pub mod Plains
pub mod Raws
