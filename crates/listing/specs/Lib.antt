pub mod Text
pub mod Writing
pub mod Listed
pub mod Program
