pub mod Offers
pub mod Visits
pub mod Rounds
