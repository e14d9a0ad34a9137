pub mod Meaning
pub mod Roads
pub mod Least
pub mod Estimates
pub mod Tests
pub mod Chosen
pub mod Answers
