pub mod Cells
pub mod Reading
pub mod Expansion
pub mod Laws
pub mod Cases
