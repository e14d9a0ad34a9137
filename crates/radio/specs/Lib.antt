pub mod Round
pub mod Radio
pub mod Runs
