pub mod Below
pub mod Graph
pub mod Mirror
pub mod Route
pub mod Table
pub mod Sum
pub mod First
