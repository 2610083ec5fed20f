pub mod Line
pub mod Working
