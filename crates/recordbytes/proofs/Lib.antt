pub mod Laws
pub mod RoundTrip
pub mod Places
pub mod ByParts
