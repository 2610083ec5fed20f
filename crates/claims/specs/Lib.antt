pub mod Route
pub mod Faults
pub mod Table
