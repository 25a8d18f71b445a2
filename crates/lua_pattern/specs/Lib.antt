pub mod Classes
pub mod Found
pub mod Matches
pub mod Reading
pub mod Singles
pub mod View
