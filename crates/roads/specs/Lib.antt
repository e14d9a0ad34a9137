pub mod Estimates
pub mod Opening
pub mod Choice
