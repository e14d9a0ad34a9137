pub mod Listed
pub mod Outcomes
pub mod Numbers
pub mod Locations
