pub mod Lending
pub mod Promise
