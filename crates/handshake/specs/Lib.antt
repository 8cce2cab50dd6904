pub mod Limits
pub mod Storage
pub mod Seen
pub mod Spread
