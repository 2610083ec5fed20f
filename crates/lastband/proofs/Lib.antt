pub mod Ranks
pub mod Finishing
pub mod Answering
