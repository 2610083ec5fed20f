pub mod Text
pub mod Reading
pub mod Faults
pub mod Calls
