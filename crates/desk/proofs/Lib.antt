pub mod Asking
pub mod Fitting
pub mod Enough
pub mod Buffers
pub mod Tails
pub mod Promises
pub mod Pieces
