pub mod Examples
