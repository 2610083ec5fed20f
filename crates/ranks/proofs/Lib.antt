pub mod Listed
pub mod Keeps
