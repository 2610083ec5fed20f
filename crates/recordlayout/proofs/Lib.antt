pub mod Zeros
pub mod Codes
pub mod Records
