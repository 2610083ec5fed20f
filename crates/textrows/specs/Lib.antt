pub mod Cell
pub mod Chars
pub mod Rows
pub mod Working
