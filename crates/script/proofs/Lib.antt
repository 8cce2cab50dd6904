pub mod Spelling
mod Cutting
mod Captions
mod Digiting
