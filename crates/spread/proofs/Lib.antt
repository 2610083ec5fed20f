pub mod Totals
pub mod Joining
pub mod Listings
pub mod Passing
