pub mod Desk
pub mod Turn
pub mod Room
pub mod Working
