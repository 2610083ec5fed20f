pub mod Gone
pub mod SoFar
