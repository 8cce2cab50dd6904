pub mod Modes
pub mod Decode
