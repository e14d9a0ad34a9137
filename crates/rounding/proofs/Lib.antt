pub mod Values
pub mod Error
pub mod Order
pub mod Quotient
