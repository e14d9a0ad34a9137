pub mod Packed
pub mod Checks
