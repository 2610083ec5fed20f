pub mod Sides
pub mod Firsts
