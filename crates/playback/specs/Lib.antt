pub mod Sets
pub mod Listens
pub mod Standing
pub mod Grading
pub mod Replays
pub mod Bytes
