pub mod Astar
pub mod Ends
