pub mod Meaning
pub mod Rules
