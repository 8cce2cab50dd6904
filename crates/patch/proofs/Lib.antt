mod Entries
mod Ordering
mod Patching
