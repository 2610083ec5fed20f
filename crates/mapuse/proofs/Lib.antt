pub mod Using
pub mod Promise
