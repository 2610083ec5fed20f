pub mod Reading
pub mod Writing
pub mod File
pub mod Refusals
pub mod Calls
