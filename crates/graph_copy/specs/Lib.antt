pub mod Graph
pub mod Numbering
pub mod Paths
pub mod Search
pub mod Walked
pub mod Packing
pub mod Isomorphic
