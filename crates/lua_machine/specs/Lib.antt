pub mod Piled
pub mod Does
pub mod Leaves
pub mod LoadedCode
pub mod Failing
pub mod Moved
