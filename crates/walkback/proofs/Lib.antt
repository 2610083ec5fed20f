pub mod Giving
pub mod WalksBack
pub mod Turning
