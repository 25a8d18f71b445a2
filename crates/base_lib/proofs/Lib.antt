pub mod Belonging
pub mod CallerLemmas
pub mod Examples
pub mod Fields
pub mod Gathering
pub mod Opening
pub mod States
