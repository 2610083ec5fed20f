pub mod List
pub mod Order
pub mod Answer
pub mod Wave
pub mod Cut
pub mod Estimate
pub mod Spread
pub mod Aimed
