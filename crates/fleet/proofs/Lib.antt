pub mod ByPlaces
pub mod Laws
pub mod Turns
pub mod Steps
