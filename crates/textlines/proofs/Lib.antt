pub mod Beginnings
pub mod Decimals
pub mod Sides
