pub mod Tables
pub mod Patched
pub mod PatchMeaning
