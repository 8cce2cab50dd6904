pub mod Outcomes
pub mod Stages
pub mod Flow
pub mod Clearing
pub mod Storing
pub mod Moving
pub mod Fetching
