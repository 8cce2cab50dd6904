pub mod Depth
pub mod Circle
pub mod Cells
