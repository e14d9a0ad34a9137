pub mod Forms
pub mod Steps
