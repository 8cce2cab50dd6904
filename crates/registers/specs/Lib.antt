pub mod Config
pub mod Values
pub mod Written
