pub mod Laws
pub mod Sizes
pub mod Prints
pub mod PrintedCounts
