pub mod Judging
pub mod Filling
pub mod Whole
pub mod Weights
pub mod RowsBack
