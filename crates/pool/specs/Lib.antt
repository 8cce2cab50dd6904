pub mod Pool
pub mod Kept
pub mod PoolMeaning
pub mod Making
