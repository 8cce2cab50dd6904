pub mod Playing
pub mod Delivering
pub mod Lines
pub mod Evening
