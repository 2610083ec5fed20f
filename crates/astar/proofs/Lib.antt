pub mod Keeps
pub mod Ending
pub mod Lending
pub mod Promise
