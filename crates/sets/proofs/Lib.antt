pub mod Mirror
pub mod Words
pub mod Members
